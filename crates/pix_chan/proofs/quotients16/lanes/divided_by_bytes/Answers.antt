use Rattle.std.proofs.Common.{◌≡◌, ◌∙◌, ◌++◌, ℕ, refl, get_or}
use Rattle.pix_chan.specs.LaneQuotients.{alphas_in, reciprocal_of, parts}
use Rattle.pix_chan.specs.declared.quotients16.TheConstants.{RECIPROCALS}
use Rattle.pix_chan.proofs.LaneQuotients.{entries_divide}
use Rattle.pix_chan.proofs.quotients16.lanes.divided_by_bytes.Goals as goal

abbrev entry : ℕ → ℕ
entry b = get_or RECIPROCALS b 0

joined : (a b c d p q r s : ℕ) → a ≡ p → b ≡ q → c ≡ r → d ≡ s
    → parts (entry a) ++ (parts (entry b) ++ (parts (entry c) ++ parts (entry d))) ≡ parts (entry p) ++ (parts (entry q) ++ (parts (entry r) ++ parts (entry s)))
joined a b c d p q r s e f g h = rw (e, f, g, h) refl

pub returns : goal.returns
returns c =
    let r = c.requires in
    c.divided_by.ensures reciprocal_of (entries_divide (alphas_in c.args.x) r.repeated) (c.reciprocals.ensures ∙ joined _ _ _ _ _ _ _ _ r.one r.two r.three r.four)
