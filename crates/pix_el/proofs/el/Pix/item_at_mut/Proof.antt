-- `item_at_mut` hands on one item of what `items_mut` lends.
use Rattle.std.proofs.Common.{◌≡◌, ◌<◌, List, [], ◌∷◌, length, slice_set, refl, sym, subst, ap, w64, MutBor}
use Rattle.std.proofs.raw_atomic.Walks.{proved}
use base.Logic.{emp, id⊢}
use base.Fml.{ftrue, flft}
use contract.Monad.{fact, fact_i}
use contract.BorrowLft.{◌⊑◌}
use contract.Running.{tables}
use mir.Syntax.{Args, Fn, named, a_type, a_number}
use mir.MapTy.{inst_fn}
use mir.Val.{Val, vptr}
use types.Kit.{‵, raw, ◌⊛◌, some, later, ◌$◌, ◌∵◌, !, qed, move, keep, drop, use0, use1, use2, split, join, fjoin, pick, await, rewrite, suffices, frame, done}
use types.Part.{whole, sub, agg}
use types.Run.{enter, addr, stop, fld, hop, from, no_more, and_then, returns}
use types.ByLocal.{alloc_all, pass_all, free_all, look_at, look_in_at, get, get_in, through, sets, lands_as}
use denote.Builtin.{usize}
use denote.Exit.{yes, no}
use denote.Follow.{follows, follows_then}
use denote.Array.{Array}
use denote.Laws.{shows}
use denote.Memory.{lone}
use prog.Memory.{size}
use denote.Param.{param, number, layouts}
use denote.Plain.{uint_vals, uint_Tells}
use denote.RattleType.{RattleType}
use denote.Ref.{MutRef, mut_vals, mut_Tells}
use denote.Signature.{plain, mut_ref_to}
use denote.Slice.{MutSlice, mut_slice_vals, mut_slice_Tells}
use denote.Steps.{nothing, heard, peeks, only}
use denote.Triple.Call.{calls_at}
use denote.Triple.Clauses.{lasts}
use denote.Triple.Spec.{triple_of}
use denote.Triple.Table.{framed}
use denote.Triple.Walked.{says, Stays, stay_dropped, walk_of, Goes-dropped, Goes-spent_ref, ends_at}
use Rattle.std.specs.Prelude.{Some, slice_get}
use Rattle.pix_el.specs.contracts.el.Pix.{the_row}
use Rattle.pix_el.specs.contracts.el.Pix.item_at_mut as f
use Rattle.pix_el.specs.contracts.el.Pix.item_at_mut.Key.{name as #self}
use Rattle.pix_el.proofs.el.Pix.item_at_mut.Statement.{statement}
use Rattle.pix_el.proofs.el.Pix.item_at_mut.Code as code
use Rattle.pix_el.specs.contracts.el.Pix.items_mut as g
use Rattle.pix_el.proofs.el.Pix.items_mut.Met.{met as items_met}
use Rattle.pix_el.specs.contracts.el.items.item_mut as h
use Rattle.pix_el.proofs.el.items.item_mut.Met.{met as item_met}

module _ (N C X A Y : RattleType) where
  abbrev args : Args
  args = layouts (a_number ∷ a_type ∷ a_type ∷ a_type ∷ a_type ∷ []) (N, (C, (X, (A, (Y, tt)))))

  abbrev function : Fn
  function = inst_fn args code.function

  abbrev R : RattleType
  R = the_row (param 0 N) (param 1 C) (param 2 X) (param 3 A) (param 4 Y)

  abbrev stayed : Stays (f.ended N C X A Y).signature.params (f.ended N C X A Y).kept
  stayed = (stay_dropped (mut_ref_to (0 ∷ []) tt (plain (λ _. R))) no, (stay_dropped (plain (λ _. usize)) yes, tt))

pub item_at_mut_spec : {M : Type 1} → statement M
item_at_mut_spec 𝓤 𝓛 𝓜 𝓡 wired n C X A Y fits LC LX LA LY =
    let N = number n in let f-ended = f.ended N C X A Y in let st = stayed N C X A Y in
    let c = f.clauses N C X A Y 𝓛 𝓜.mem 𝓡.returns in let W = walk_of 𝓛 f-ended st c in let 𝓣 = tables 𝓤 𝓛.H 𝓜 𝓡 𝓡.env in
    let S = R N C X A Y in let E = param 1 C in
    proved 𝓛 f-ended st c 𝓜 𝓡 (Goes-spent_ref 𝓛 6 (0 ∷ []) tt (plain (λ _. S)), (Goes-dropped 𝓛 6 (plain (λ _. usize)) yes (λ κs x w. refl), tt))
    (#self (args N C X A Y)) (function N C X A Y) (code.unfolded 𝓤 𝓛.H 𝓜 𝓡 wired (N, (C, (X, (A, (Y, tt))))))
    (λ κs. (mut_vals, (uint_vals w64, tt))) (λ κs. (mut_Tells (named 0) κs.0 S, (uint_Tells w64, tt)))
    (λ κs qs bounds a _ are.
    let κ = κs.0 in let q = qs.0 in let κC = κs.1.1.0 in let qC = qs.1.1.0 in
    let self = a.0 in let ch = a.1.0 in
    let z : W.Ghost = ((κs, qs, bounds, a, (mut_vals self, (uint_vals w64 ch, tt))), tt) in
    let G = triple_of 𝓛 (g.signature N C X A Y) (g.spec N C X A Y 𝓛 𝓜.mem 𝓡.returns) in
    let zg : G.Ghost = ((κs, qs, bounds, (self, tt), (mut_vals self, tt)), tt) in
    let H = triple_of 𝓛 (h.signature C) (h.spec C 𝓛 𝓜.mem 𝓡.returns) in
    let Part = MutSlice (named 0) κ E in let Item = MutRef (named 0) κ E in
    let F : List C.Denot → S.Denot = λ w. record self.now { channels = w } in
    let rest = ‵ (flft κs.1.1.1.0 qs.1.1.1.0) ⊛ ‵ (flft κs.1.1.1.1.0 qs.1.1.1.1.0) ⊛ ‵ (flft κs.1.1.1.1.1.0 qs.1.1.1.1.1.0) ⊛ ‵ ftrue in
    qed 𝓛 (((‵ (flft κ q) ⊛ ‵ (flft κs.1.0 qs.1.0) ⊛ ‵ (flft κC qC) ⊛ rest) ⊛ ‵ ((MutRef (named 0) κ S).own_val self (mut_vals self)) ⊛ ‵ (usize.own_val ch (uint_vals w64 ch)) ⊛ ‵ ftrue)
    ∷ (raw (fact 𝓤 (κs.1.0 ⊑ [])) ⊛ raw (fact 𝓤 (κC ⊑ C.lives)) ⊛ raw (fact 𝓤 (κs.1.1.1.0 ⊑ X.lives)) ⊛ raw (fact 𝓤 (κs.1.1.1.1.0 ⊑ A.lives)) ⊛ raw (fact 𝓤 (κs.1.1.1.1.1.0 ⊑ Y.lives))
    ⊛ raw (fact 𝓤 (size (lone S.mir) < 9223372036854775808)) ⊛ raw (fact 𝓤 (ch < n))) ∷ []) ∵
    move ! (1 ∷ []) $ split ! $ heard ! _ (λ kn. split ! $ heard ! _ (λ kc. split ! $ heard ! _ (λ kx. split ! $ heard ! _ (λ ka. split ! $ heard ! _ (λ ky.
    split ! $ heard ! _ (λ room. heard ! _ (λ inside.
    split ! $ move ! (1 ∷ []) $ split ! $
    -- [self; the place; the tokens]
    enter ! _ _ (function N C X A Y) _ _ $
    alloc_all ! (λ l. pass_all ! refl ((tt, tt), ((tt, record { fits = are.1.0.1 }), tt)) $
    sets ! (addr ! (through ! refl (stop !))) refl (tt, tt) $
    nothing ! $ move ! (1 ∷ 0 ∷ []) $ join ! $ move ! (2 ∷ 0 ∷ []) $ join ! $
    nothing ! $ use0 𝓛 (raw (fact 𝓤 (size (lone S.mir) < 9223372036854775808))) (fact_i 𝓤 (size (lone S.mir) < 9223372036854775808) (emp 𝓤) room) $ join ! $
    use0 𝓛 (raw (fact 𝓤 (κs.1.1.1.1.1.0 ⊑ Y.lives))) (fact_i 𝓤 (κs.1.1.1.1.1.0 ⊑ Y.lives) (emp 𝓤) ky) $ join ! $
    use0 𝓛 (raw (fact 𝓤 (κs.1.1.1.1.0 ⊑ A.lives))) (fact_i 𝓤 (κs.1.1.1.1.0 ⊑ A.lives) (emp 𝓤) ka) $ join ! $
    use0 𝓛 (raw (fact 𝓤 (κs.1.1.1.0 ⊑ X.lives))) (fact_i 𝓤 (κs.1.1.1.0 ⊑ X.lives) (emp 𝓤) kx) $ join ! $
    use0 𝓛 (raw (fact 𝓤 (κC ⊑ C.lives))) (fact_i 𝓤 (κC ⊑ C.lives) (emp 𝓤) kc) $ join ! $
    use0 𝓛 (raw (fact 𝓤 (κs.1.0 ⊑ []))) (fact_i 𝓤 (κs.1.0 ⊑ []) (emp 𝓤) kn) $ join ! $
    move ! (1 ∷ 0 ∷ []) $ use2 𝓛 (raw (G.pre zg)) (id⊢ 𝓤 _) $
    calls_at ! (framed 𝓤 𝓛.H 𝓜 𝓣) G (items_met 𝓤 𝓛 𝓜 𝓡 (code.calls-pix_el::el::Pix::items_mut 𝓡.env wired) n C X A Y fits LC LX LA LY) zg (and_then ! (get ! refl) (no_more !)) (λ v.
    use1 𝓛 (later (some (λ (r : MutBor (List C.Denot)). ((‵ (flft κ q) ⊛ ‵ (flft κs.1.0 qs.1.0) ⊛ ‵ (flft κC qC) ⊛ rest) ⊛ ‵ (Part.own_val r (v ∷ []))) ⊛
    some (λ (ws : Unit {0} × Unit {0}). ‵ (lasts (g.ended N C X A Y) κs (self, tt) ws) ⊛ (‵ (follows S (Array E 0) self.ghost_name r.ghost_name F)
    ⊛ (raw (fact 𝓤 (r.now ≡ self.now.channels)) ⊛ raw (fact 𝓤 (length r.now ≡ n)))))))) (id⊢ 𝓤 _) $
    await ! tt $ pick ! (λ r. split ! $ split ! $ move ! (2 ∷ []) $ pick ! (λ ws. split ! $ drop ! $ split ! $ move ! (1 ∷ []) $ split ! $ heard ! _ (λ now. heard ! _ (λ long.
    -- [how self follows; the tokens; the items; the place; the locals]
    move ! (2 ∷ []) $ peeks ! Part _ (shows 𝓛 Part) r (v ∷ []) (λ is.
    let e : v ∷ [] ≡ mut_slice_vals r = mut_slice_Tells (named 0) κ E r _ is in
    rewrite ! 0 (λ (us : List Val). ‵ (Part.own_val r us)) e refl $
    lands_as ! (ap only e) refl (tt, (tt, (record { fits = is.0.1.0 }, tt))) $
    sets ! (addr ! (from ! (fld ! refl (hop ! (look_in_at ! 3 (sub ! 0 refl (whole !))) (stop !))))) refl (tt, tt) $
    sets ! (agg ! (and_then ! (get ! refl) (and_then ! (get_in ! (fld ! refl (stop !)) (sub ! 1 refl (whole !))) (no_more !)))) refl (tt, (tt, (record { fits = is.0.1.0 }, tt))) $
    -- [the items; how self follows; the tokens; the place; the locals]
    let zh : H.Ghost = (((κ, (κC, tt)), (q, (qC, tt)), (bounds.0, tt), (r, (ch, tt)), (mut_slice_vals r, (uint_vals w64 ch, tt))), tt) in
    move ! (2 ∷ []) $ split ! $ move ! (1 ∷ []) $ split ! $ move ! (1 ∷ []) $ split ! $
    -- [the token of C; the rest; N's; κ's; the items; how self follows; the place; the locals]
    nothing ! $ move ! (1 ∷ 0 ∷ []) $ join ! $ move ! (3 ∷ 0 ∷ []) $ join ! $
    -- [two tokens; the rest; N's; the items; how self follows; the place; the locals]
    move ! (3 ∷ 5 ∷ []) $ join ! $ move ! (1 ∷ 0 ∷ []) $ join ! $
    use0 𝓛 (raw (fact 𝓤 (ch < length r.now))) (fact_i 𝓤 (ch < length r.now) (emp 𝓤) (subst (λ n. ch < n) (sym long) inside)) $
    use0 𝓛 (raw (fact 𝓤 (κC ⊑ C.lives))) (fact_i 𝓤 (κC ⊑ C.lives) (emp 𝓤) kc) $ join ! $
    move ! (1 ∷ 0 ∷ []) $ use2 𝓛 (raw (H.pre zh)) (id⊢ 𝓤 _) $
    calls_at ! (framed 𝓤 𝓛.H 𝓜 𝓣) H (item_met 𝓤 𝓛 𝓜 𝓡 (code.calls-pix_el::el::items::item_mut 𝓡.env wired) C LC) zh (and_then ! (get ! refl) (and_then ! (get ! refl) (no_more !))) (λ w.
    use1 𝓛 (later (some (λ (x : MutBor C.Denot). ((‵ (flft κ q) ⊛ ‵ (flft κC qC) ⊛ ‵ ftrue) ⊛ ‵ (Item.own_val x (w ∷ []))) ⊛
    some (λ (ws : Unit {0} × (Unit {0} × Unit {0})). ‵ (lasts (h.ended C) (κ, (κC, tt)) (r, (ch, tt)) ws) ⊛ (‵ (follows (Array E 0) E r.ghost_name x.ghost_name (slice_set r.now ch))
    ⊛ raw (fact 𝓤 (slice_get r.now ch ≡ Some x.now))))))) (id⊢ 𝓤 _) $
    await ! tt $ pick ! (λ x. split ! $ split ! $ move ! (2 ∷ []) $ pick ! (λ ws. split ! $ drop ! $ split ! $ move ! (1 ∷ []) $ heard ! _ (λ found.
    -- [how the items follow; two tokens; the item; the rest; N's; how self follows; the locals]
    move ! (5 ∷ 0 ∷ []) $ use2 𝓛 (‵ (follows S E self.ghost_name x.ghost_name (λ y. F (slice_set r.now ch y))))
    (follows_then 𝓛 S (Array E 0) E F (slice_set r.now ch) self.ghost_name r.ghost_name x.ghost_name) $
    rewrite ! 0 (λ (l : List C.Denot). ‵ (follows S E self.ghost_name x.ghost_name (λ y. F (slice_set l ch y)))) now refl $
    move ! (2 ∷ []) $ peeks ! Item _ (shows 𝓛 Item) x (w ∷ []) (λ is'.
    let e' : w ∷ [] ≡ mut_vals x = mut_Tells (named 0) κ E x _ is' in
    rewrite ! 0 (λ (us : List Val). ‵ (Item.own_val x us)) e' refl $
    lands_as ! (ap only e') refl (tt, tt) $
    returns ! (look_at ! 0 refl) $ free_all ! refl $ keep ! (0 ∷ 1 ∷ 2 ∷ 3 ∷ 4 ∷ []) $
    -- [the item; how self follows; two tokens; the rest; N's]
    move ! (2 ∷ []) $ split ! $ move ! (1 ∷ []) $ split ! $ move ! (0 ∷ 5 ∷ []) $
    -- [C's; the rest; nothing; κ's; the item; how self follows; N's]
    join ! $ move ! (5 ∷ 0 ∷ []) $ join ! $ move ! (2 ∷ 0 ∷ []) $ join ! $ move ! (2 ∷ 0 ∷ 3 ∷ []) $ keep ! (0 ∷ 1 ∷ 2 ∷ []) $
    suffices ! _ (ends_at 𝓛 f-ended st c z (vptr x.ref_ptr.0 x.ref_ptr.1) x (tt, (tt, tt)) (tt, (tt, tt))) $
    nothing ! $ nothing ! $ fjoin ! $ nothing ! $ fjoin ! $ join ! $ move ! (1 ∷ []) $ join ! $ frame ! $
    says ! (subst (λ (l : List C.Denot). slice_get l ch ≡ Some x.now) now found) $ done !))))))))))))))))))))
