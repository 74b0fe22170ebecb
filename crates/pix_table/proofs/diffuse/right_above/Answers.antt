-- Of `right_above`: where the colors of that pixel are stored.
use Rattle.std.proofs.Common.{◌≡◌, ℕ, ◌+◌, ◌-◌, ◌<◌, ◌≤◌, ◌&&◌, [], map, get_or, true, false, nat_lt, nat_le, arith, sym, ap, ◌∙◌, mod-lt}
use Rattle.std.proofs.lemmas.Bool.{lt-ltb, le-ltb}
use Rattle.std.proofs.lemmas.Bool.Decides.{nat_tests}
use Rattle.std.proofs.Math.Nat.{mod-eq_of_lt}
use Rattle.pix_table.proofs.lemmas.diffuse.Diffused.{moved}
use Rattle.pix_table.proofs.lemmas.diffuse.ScanOrders.{same_test}
use Rattle.pix_table.proofs.diffuse.right_above.Goals as goal
use Rattle.pix_table.proofs.diffuse.right_above.Goals.{then-column-how, else-column-how}

both : (place w f : ℕ) → nat_lt (place + 1) w && nat_le w f ≡ true → (place + 1 < w) × (w ≤ f)
both place w f t = (grind (arith, nat_tests), grind (arith, nat_tests))

pub returns : goal.returns
returns g c = λ ws gs wanted found.
    let w = c.args.how.width in
    let place = c.args.column in
    let below : place < w = omega (arith, mod-lt c.args.k {m = w} c.requires.row, c.requires.column) in
    let is : nat_lt (place + 1) w && nat_le w (c.args.k - place) ≡ c.if-column-how.there =
    elim c.if-column-how.branch [
      | then-column-how v ↦
          let inner : nat_lt (place + 1) w ≡ true = lt-ltb (place + 1) w (omega (arith, v.if-column-how.true)) in
          rw inner (same_test c.args.k w place c.requires.row c.requires.column ∙ sym v.there-is)
      | else-column-how v ↦
          let outer : nat_lt (place + 1) w ≡ false = le-ltb (place + 1) w v.if-column-how.false in
          rw outer (sym (v.there-is ∙ outer))
    ] in
    let inside : nat_lt (place + 1) w && nat_le w (c.args.k - place) ≡ true → (place + 1 < w) × (w ≤ c.args.k - place) = λ t. both place w (c.args.k - place) t in
    let next : nat_lt (place + 1) w && nat_le w (c.args.k - place) ≡ true → c.next_place.result ≡ place + 1 = λ t.
    c.next_place.ensures.next place (sym (mod-eq_of_lt below)) ∙ mod-eq_of_lt (inside t).0 in
    moved c.if-column-how.there (nat_lt (place + 1) w && nat_le w (c.args.k - place)) _ _ _ _ c.missed_at.result is
    (λ t. sym (ap (λ n. get_or (map g.S.DiffusedColor.spread c.args.wanted.now) n []) (next t) ∙ wanted.above (place + 1) (omega arith) (inside t).0 (inside t).1))
    (λ t. sym (ap (λ n. get_or (map g.S.DiffusedColor.spread c.args.found.now) n []) (next t) ∙ found.above (place + 1) (omega arith) (inside t).0 (inside t).1))
    c.missed_at.ensures
