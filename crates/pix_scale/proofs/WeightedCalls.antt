-- What holds where a call by tables of the caller's own is not refused.
use Rattle.std.proofs.Common.{◌≡◌, ℕ, ◌≤◌}
use Rattle.std.specs.Prelude.{ℤ, List, ◌&&◌, true, nat_le, Option, Some, None}
use Rattle.std.specs.Option.{option_or}
use Rattle.std.proofs.lemmas.Bool.{and_parts, leb-true}
use Rattle.pix_scale.specs.Call.{fit_in}
use Rattle.pix_scale.specs.Weighted.{is_table}
use Rattle.pix_scale.specs.WeightedCall.{weighted_words, side_fault, weighted_fault}
use Rattle.pix_scale.specs.declared.shape.Rows.{Rows}
use Rattle.pix_scale.specs.declared.fault.ScaleFault.{ScaleFault}
use Rattle.pix_scale.specs.declared.fault.ScaleFault.TheVariants.{BadRows, BadSource, BadWeights, SmallWork}
use Rattle.pix_scale.proofs.Calls.{passed, fit, Fit}

-- where the first of two faults, or else the second, is none, the second is none
rest_none : (first rest : Option ScaleFault) → option_or first rest ≡ None → rest ≡ None
rest_none None rest e = e
rest_none (Some fault) rest e = cc

-- what the tables and the memory are then
pub record Drawable (count : ℕ) (to from : Rows) (firsts : List ℕ) (taps : ℕ) (weights : List ℤ) (lines : List ℕ) (lines_taps : ℕ) (lines_weights : List ℤ) (to_len from_len work_len : ℕ) : Type 0 where
  pub rows : Fit to to_len
  pub source : Fit from from_len
  pub across : is_table from.width to.width firsts taps weights ≡ true
  pub down : is_table from.height to.height lines lines_taps lines_weights ≡ true
  pub work : weighted_words count to from taps lines_taps ≤ work_len

pub drawable : (count : ℕ) (to from : Rows) (firsts : List ℕ) (taps : ℕ) (weights : List ℤ) (lines : List ℕ) (lines_taps : ℕ) (lines_weights : List ℤ) (to_len from_len work_len : ℕ)
    → weighted_fault count to from firsts taps weights lines lines_taps lines_weights to_len from_len work_len ≡ None
    → Drawable count to from firsts taps weights lines lines_taps lines_weights to_len from_len work_len
drawable count to from firsts taps weights lines lines_taps lines_weights to_len from_len work_len e =
    let memory = rest_none (side_fault from) _ e in
    let first = passed (fit_in to to_len) _ BadRows memory in
    let second = passed (fit_in from from_len) _ BadSource first.1 in
    let third = passed (is_table from.width to.width firsts taps weights && is_table from.height to.height lines lines_taps lines_weights) _ BadWeights second.1 in
    let fourth = passed (nat_le (weighted_words count to from taps lines_taps) work_len) None SmallWork third.1 in
    let both = and_parts _ _ third.0 in
    record {
      rows = fit to to_len first.0;
      source = fit from from_len second.0;
      across = both.0;
      down = both.1;
      work = leb-true _ work_len fourth.0;
    }
