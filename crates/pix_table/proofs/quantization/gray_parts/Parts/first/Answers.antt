-- Of `first`: that the levels up to `end` are some, that the invariant of its loop holds at first and after each turn, and
-- what it returns.
use Rattle.std.proofs.Common.{◌≡◌, ℕ, ◌<◌, length, arith, sym, ◌∙◌, length-set}
use Rattle.std.proofs.lemmas.List.{length-replicate}
use Rattle.pix_table.specs.quantization.GrayLevels.{error_of}
use Rattle.pix_table.proofs.lemmas.quantization.LevelLemmas.{between, error_small, no_error}
use Rattle.pix_table.proofs.lemmas.quantization.PartLemmas.{made_more, still_small, zeros}
use Rattle.pix_table.proofs.quantization.gray_parts.Parts.first.Goals as goal

pub loop-end-init : goal.loop-end-init
loop-end-init c =
    let r = c.requires.levels in
    record {
      long = length-replicate {A = ℕ} 257 0;
      made = λ b l. let none : b ≡ 0 = omega arith in rw none (zeros 257 0 ∙ sym (no_error r.0 r.1 c.args.len c.args.sums.now r.2 0 (omega arith)));
      small = λ b. omega (arith, zeros 257 b);
    }

pub error-error-requires : goal.error-error-requires
error-error-requires c =
    let r = c.requires.levels in
    between r.0 r.1 c.args.len c.args.sums.now r.2 0 c.loop-end.end (omega arith) (omega arith)

pub loop-end-preserved : goal.loop-end-preserved
loop-end-preserved c =
    let r = c.requires.levels in
    let h = c.loop-end.invariant in
    let small = error_small r.0 r.1 c.args.len c.args.sums.now r.2 0 c.loop-end.end (omega arith) (omega arith) in
    let inside : c.loop-end.end < length c.loop-end.errors = omega (arith, h.long, r.2.levels.few) in
    record {
      long = length-set c.loop-end.errors c.loop-end.end c.error-error.result ∙ h.long;
      made = made_more (error_of c.args.sums.now 0) c.loop-end.errors c.loop-end.end c.error-error.result inside c.error-error.ensures h.made;
      small = still_small c.loop-end.errors c.loop-end.end c.error-error.result 1267650600228229401496703205376 inside (omega (arith, c.error-error.ensures, small)) h.small;
    }

pub returns-clause-first : goal.returns-clause-first
returns-clause-first c = λ b l. c.loop-end.invariant.made b (omega arith)

pub returns-clause-starts : goal.returns-clause-starts
returns-clause-starts c = zeros 256

pub returns-clause-small : goal.returns-clause-small
returns-clause-small c = c.loop-end.invariant.small
