-- `row_mut` hands on what `row_part_mut` lends, and nothing where that has no pixel: the raster is
-- then as it was.
use Rattle.std.proofs.Common.{◌≡◌, ℕ, zero, suc, ◌<◌, ◌+◌, List, [], ◌∷◌, length, refl, ap, true, lit<, w32, MutBor, arith, slice_range}
use Rattle.std.proofs.raw_atomic.Walks.{proved}
use Rattle.std.specs.Prelude.{Some, None}
use seplogic.Ra.Ura.{Ura}
use base.Logic.{SProp, ent, emp, id⊢}
use base.Fml.{ftrue, flft, fobs, fres}
use contract.Monad.{fact}
use contract.Running.{tables}
use lib.Dec.{T, eqb, eqb→eq}
use mir.Syntax.{Args, Fn, named, a_type}
use mir.MapTy.{inst_fn}
use mir.Val.{Val, of_list}
use types.Logic.{Logic, sem}
use types.Kit.{‵, raw, ◌⊛◌, some, later, at_ret, ◌$◌, ◌∵◌, !, qed, move, keep, drop, use0, use1, use2, split, join, fsplit3, fjoin, fpack, feq_i, pick, await, rewrite, suffices, frame, done}
use types.Match.{live}
use Rattle.std.proofs.VecSteps.Shapes.{after}
use base.Stored.{coded_list}
use denote.Enum.Row.{tagged_with}
use denote.Enum.Enum.{form_of, in_a_row}
use denote.Enum.Declared.{shape}
use Rattle.std.specs.Prelude.{not}
use types.Part.{whole, sub, agg}
use types.Run.{enter, of_opd, lit, bin, addr, stop, fld, hop, from, no_more, and_then, first, branches, exec, returns}
use types.ByLocal.{alloc_all, pass_all, free_all, look_at, look_in_at, get, get_in, through, sets, sets_last, lands_as, env}
use denote.Builtin.{i32}
use denote.Exit.{yes, no}
use denote.Follow.{follows, follows_by, followed}
use denote.FollowSlice.{heres_id}
use denote.Array.{Array}
use denote.Laws.{shows}
use denote.Param.{param, layouts}
use denote.RattleType.{RattleType, Valss, owns}
use denote.Ref.{mut_vals, mut_Tells}
use denote.Signature.{plain, mut_ref_to}
use denote.Signed.{sint_vals, sint_Tells, sint_Lawful}
use denote.Slice.{MutSlice, slice_val, mut_slice_vals, mut_slice_Tells}
use denote.Steps.{nothing, heard, peeks, only}
use denote.Triple.Call.{calls_at}
use denote.Triple.Clauses.{lasts}
use denote.Triple.Spec.{triple_of}
use denote.Triple.Table.{framed}
use denote.Triple.Walked.{says, Stays, stay_dropped, walk_of, Goes-dropped, Goes-spent_ref, ends_at}
use Rattle.std.specs.contracts.option.Option as OP
use Rattle.pix_raster.specs.Image.{Image}
use Rattle.pix_raster.specs.Region.{has_row}
use Rattle.pix_raster.specs.Rows.{clipped}
use Rattle.pix_raster.specs.Written.{place_of, with_run}
use Rattle.pix_raster.specs.Clip.{row_start, row_end}
use Rattle.pix_raster.specs.contracts.raster.Raster.{the_row as Raster-row}
use Rattle.pix_raster.specs.contracts.region.Region as Reg
use Rattle.pix_raster.proofs.region.Region.TheLaws.{the_told, the_row_laws}
use Rattle.pix_raster.proofs.WrittenLemmas.{none_there, some_there, row_start_is, with_run-none}
use Rattle.pix_raster.proofs.Points.{row_written}
use Rattle.pix_raster.specs.contracts.raster.Raster.row_mut as f
use Rattle.pix_raster.specs.contracts.raster.Raster.row_mut.Key.{name as #self}
use Rattle.pix_raster.proofs.raster.Raster.row_mut.Statement.{statement}
use Rattle.pix_raster.proofs.raster.Raster.row_mut.Code as code
use Rattle.pix_raster.specs.contracts.raster.Raster.row_part_mut as g
use Rattle.pix_raster.proofs.raster.Raster.row_part_mut.Met.{met}

module _ (P : RattleType) where
  abbrev args : Args
  args = layouts (a_type ∷ []) (P, tt)

  abbrev function : Fn
  function = inst_fn args code.function

  abbrev R : RattleType
  R = param 0 P

  abbrev Ras : RattleType
  Ras = Raster-row R

  abbrev stayed : Stays (f.ended P).signature.params (f.ended P).kept
  stayed = (stay_dropped (mut_ref_to (0 ∷ []) tt (plain (λ _. Ras))) no, (stay_dropped (plain (λ _. i32)) yes, (stay_dropped (plain (λ _. Reg.the_row)) yes, tt)))

-- `None`, and `Some` of a value, as the machine has them
module _ {M : Type 1} {𝓤 : Ura M} (𝓛 : Logic 𝓤) (X : RattleType) where
  Some-of : (x : X.Denot) (v : Val) → ent 𝓤 (sem 𝓛 (X.own_val x (v ∷ []))) (sem 𝓛 ((OP.the_row X).own_val (Some x) (live 1 (of_list (v ∷ [])) ∷ [])))
  Some-of x v =
      qed 𝓛 (‵ (X.own_val x (v ∷ [])) ∷ []) ∵ nothing ! $ move ! (1 ∷ 0 ∷ []) $ fjoin ! $ feq_i ! (List Val) (v ∷ []) (v ∷ []) refl $ fjoin ! $
      fpack ! (Valss (X ∷ [])) (in_a_row (X ∷ []) (owns (X ∷ []) (x, tt)) (v ∷ [])) (v ∷ [], tt) $
      feq_i ! (List Val) (live 1 (of_list (v ∷ [])) ∷ []) (live 1 (of_list (v ∷ [])) ∷ []) refl $ fjoin ! $
      fpack ! (List Val) (tagged_with (form_of (shape (OP.the_type X))) (form_of (shape (OP.the_type X))).payload ((OP.the_type X).to (Some x)) (live 1 (of_list (v ∷ [])) ∷ [])) (v ∷ []) $ done !

  none_of : ent 𝓤 (emp 𝓤) (sem 𝓛 ((OP.the_row X).own_val None (live 0 (of_list []) ∷ [])))
  none_of =
      qed 𝓛 [] ∵ nothing ! $ feq_i ! (List Val) [] [] refl $ fjoin ! $ fpack ! (Valss []) (in_a_row [] (owns [] tt) []) tt $
      feq_i ! (List Val) (live 0 (of_list []) ∷ []) (live 0 (of_list []) ∷ []) refl $ fjoin ! $
      fpack ! (List Val) (tagged_with (form_of (shape (OP.the_type X))) (form_of (shape (OP.the_type X))).payload ((OP.the_type X).to None) (live 0 (of_list []) ∷ [])) [] $ done !

no-items : {X : Type 0} (xs : List X) → length xs ≡ 0 → xs ≡ []
no-items [] e = refl
no-items (x ∷ xs) e = absurd (omega arith)

above-0 : (n : ℕ) → T (not (eqb n 0)) → 0 < n
above-0 zero t = absurd t
above-0 (suc n) t = omega arith

pub row_mut_spec : {M : Type 1} → statement M
unfolding follows_by
row_mut_spec 𝓤 𝓛 𝓜 𝓡 wired P L =
    let c = f.clauses P 𝓛 𝓜.mem 𝓡.returns in let W = walk_of 𝓛 (f.ended P) (stayed P) c in let 𝓣 = tables 𝓤 𝓛.H 𝓜 𝓡 𝓡.env in
    proved 𝓛 (f.ended P) (stayed P) c 𝓜 𝓡 (Goes-spent_ref 𝓛 2 (0 ∷ []) tt (plain (λ _. Ras P)), (Goes-dropped 𝓛 2 (plain (λ _. i32)) yes (λ κs x w. refl), (Goes-dropped 𝓛 2 (plain (λ _. Reg.the_row)) yes (λ κs x w. refl), tt)))
    (#self (args P)) (function P) (code.unfolded 𝓤 𝓛.H 𝓜 𝓡 wired (P, tt))
    (λ κs. (mut_vals, (sint_vals w32, ((λ d. the_told.val d ∷ []), tt)))) (λ κs. (mut_Tells (named 0) κs.0 (Ras P), (sint_Tells w32, (the_told.tells, tt))))
    (λ κs qs bounds a _ are.
    let κ = κs.0 in let q = qs.0 in let self = a.0 in let y = a.1.0 in let reg = a.1.1.0 in
    let z : W.Ghost = ((κs, qs, bounds, a, (mut_vals self, (sint_vals w32 y, (the_told.val reg ∷ [], tt)))), tt) in
    let G = triple_of 𝓛 (g.signature P) (g.spec P 𝓛 𝓜.mem 𝓡.returns) in
    let Post : Val → SProp 𝓤 = W.post z in
    let start : ℕ = row_start self.now.width (clipped self.now reg) y in
    let stop_at : ℕ = row_end self.now.width (clipped self.now reg) y in
    let F = with_run self.now start in
    let begins : has_row (clipped self.now reg) y ≡ true → start ≡ place_of self.now (clipped self.now reg).left y = row_start_is self.now reg y in
    let there : (xs : List P.Denot) → length xs + start ≡ stop_at → T (not (eqb (length xs) 0)) → has_row (clipped self.now reg) y ≡ true =
    λ xs long t. some_there self.now reg y (length xs) long (above-0 (length xs) t) in
    let Part = MutSlice (named 0) κ (R P) in
    qed 𝓛 (raw (G.pre z) ∷ []) ∵ enter ! _ _ (function P) _ _ $
    alloc_all ! (λ l. pass_all ! refl ((tt, tt), (((sint_Lawful 𝓛 w32).typed y _ are.1.0).0, (((the_row_laws.lawful 𝓛).typed reg _ are.1.1.0).0, tt))) $
    sets ! (addr ! (through ! refl (stop !))) refl (tt, tt) $
    calls_at ! (framed 𝓤 𝓛.H 𝓜 𝓣) G (met 𝓤 𝓛 𝓜 𝓡 (code.calls-pix_raster::raster::Raster::row_part_mut 𝓡.env wired) P L) z
    (and_then ! (get ! refl) (and_then ! (get ! refl) (and_then ! (get ! refl) (no_more !)))) (λ v.
    use1 𝓛 (later (some (λ (r : MutBor (List P.Denot)). ((‵ (flft κ q) ⊛ ‵ (flft κs.1.0 qs.1.0) ⊛ ‵ ftrue) ⊛ ‵ (Part.own_val r (v ∷ []))) ⊛
    some (λ (ws : Unit {0} × (Unit {0} × (Unit {0} × Unit {0}))). ‵ (lasts (g.ended P) κs a ws) ⊛ (‵ (follows (Ras P) (Array (R P) 0) self.ghost_name r.ghost_name F)
    ⊛ (raw (fact 𝓤 (r.now ≡ slice_range self.now.pixels start stop_at)) ⊛ raw (fact 𝓤 (length r.now + start ≡ stop_at)))))))) (id⊢ 𝓤 _) $
    await ! tt $ pick ! (λ r. split ! $ split ! $ move ! (2 ∷ []) $ pick ! (λ ws. split ! $ drop ! $ split ! $ move ! (1 ∷ []) $ split ! $ heard ! _ (λ now. heard ! _ (λ long.
    -- [how the raster follows; the tokens; the row; the locals]
    move ! (2 ∷ []) $ peeks ! Part _ (shows 𝓛 Part) r (v ∷ []) (λ is.
    let e : v ∷ [] ≡ mut_slice_vals r = mut_slice_Tells (named 0) κ (R P) r _ is in
    let sv = slice_val r.ref_ptr (length r.now) in
    rewrite ! 0 (λ (us : List Val). ‵ (Part.own_val r us)) e refl $
    lands_as ! (ap only e) refl (tt, (tt, (record { fits = is.0.1.0 }, tt))) $
    sets ! (of_opd ! (get_in ! (fld ! refl (stop !)) (sub ! 1 refl (whole !)))) refl (tt, record { fits = is.0.1.0 }) $
    sets ! (bin ! (get ! refl) (lit ! tt) tt) refl (tt, tt) $
    first ! $ branches ! (get ! refl)
    (λ t.
    sets_last ! (agg ! (and_then ! (lit ! tt) (no_more !))) refl (tt, (record { fits = lit< tt }, tt)) $
    exec ! 𝓣.C 𝓣.Λ (env (function P).locals l) (after 5 (function P).body) (at_ret (env (function P).locals l) (W.post z)) $
    sets ! (of_opd ! (get ! refl)) refl (tt, (record { fits = lit< tt }, tt)) $
    returns ! (look_at ! 0 refl) $ free_all ! refl $ keep ! (0 ∷ 1 ∷ 2 ∷ []) $
    fsplit3 ! $ move ! (1 ∷ []) $ rewrite ! 0 (λ (xs : List P.Denot). ‵ (fobs r.ghost_name ((coded_list (R P).coded).code xs))) (heres_id (R P) r.now) refl $
    use1 𝓛 (‵ (fres r.ghost_name ((coded_list (R P).coded).code r.now))) (𝓛.names.obs-res r.ghost_name ((coded_list (R P).coded).code r.now)) $
    rewrite ! 0 (λ (xs : List P.Denot). ‵ (fres r.ghost_name ((coded_list (R P).coded).code xs))) (no-items r.now (eqb→eq (length r.now) 0 t)) refl $ move ! (3 ∷ 0 ∷ []) $
    use2 𝓛 (‵ (fres self.ghost_name ((Ras P).coded.code (F [])))) (followed 𝓛 (Ras P) (Array (R P) 0) F self.ghost_name r.ghost_name []) $
    rewrite ! 0 (λ (i : Image P.Denot). ‵ (fres self.ghost_name ((Ras P).coded.code i))) (with_run-none self.now start) refl $
    -- [the raster as it was; two parts of the row; the tokens]
    keep ! (3 ∷ 0 ∷ []) $ use0 𝓛 (‵ ((OP.the_row Part).own_val None (live 0 (of_list []) ∷ []))) (none_of 𝓛 Part) $
    suffices ! _ (ends_at 𝓛 (f.ended P) (stayed P) c z (live 0 (of_list [])) None (tt, (tt, (tt, tt))) (tt, (tt, (tt, tt)))) $
    nothing ! $ nothing ! $ fjoin ! $ nothing ! $ fjoin ! $ nothing ! $ fjoin ! $ join ! $ move ! (1 ∷ []) $ join ! $ frame ! $
    says ! (none_there self.now reg y (length r.now) long (eqb→eq (length r.now) 0 t)) $ done !)
    (λ t.
    sets ! (addr ! (from ! (fld ! refl (hop ! (look_in_at ! 4 (sub ! 0 refl (whole !))) (stop !))))) refl (tt, tt) $
    sets ! (agg ! (and_then ! (get ! refl) (and_then ! (get_in ! (fld ! refl (stop !)) (sub ! 1 refl (whole !))) (no_more !)))) refl (tt, (tt, (record { fits = is.0.1.0 }, tt))) $
    sets_last ! (agg ! (and_then ! (lit ! tt) (and_then ! (get ! refl) (no_more !)))) refl (tt, (record { fits = lit< tt }, ((tt, (record { fits = is.0.1.0 }, tt)), tt))) $
    exec ! 𝓣.C 𝓣.Λ (env (function P).locals l) (after 5 (function P).body) (at_ret (env (function P).locals l) (W.post z)) $
    sets ! (of_opd ! (get ! refl)) refl (tt, (record { fits = lit< tt }, ((tt, (record { fits = is.0.1.0 }, tt)), tt))) $
    returns ! (look_at ! 0 refl) $ free_all ! refl $ keep ! (0 ∷ 1 ∷ 2 ∷ []) $
    -- [the row; how the raster follows; the tokens]
    move ! (1 ∷ []) $ rewrite ! 0 (λ (a : ℕ). ‵ (follows (Ras P) (Array (R P) 0) self.ghost_name r.ghost_name (with_run self.now a))) (begins (there r.now long t)) refl $ move ! (1 ∷ []) $
    use1 𝓛 (‵ ((OP.the_row Part).own_val (Some r) (live 1 (of_list (sv ∷ [])) ∷ []))) (Some-of 𝓛 Part r sv) $ move ! (0 ∷ 2 ∷ []) $
    suffices ! _ (ends_at 𝓛 (f.ended P) (stayed P) c z (live 1 (of_list (sv ∷ []))) (Some r) (tt, (tt, (tt, tt))) (tt, (tt, (tt, tt)))) $
    nothing ! $ nothing ! $ fjoin ! $ nothing ! $ fjoin ! $ nothing ! $ fjoin ! $ join ! $ move ! (1 ∷ []) $ join ! $ frame ! $
    says ! (row_written self.now reg y r.now (there r.now long t) now long) $ done !)))))))))
