use Rattle.std.proofs.Common.{◌≡◌, ◌∙◌, ap, arith, length, map, ℕ}
use Rattle.pix_chan.specs.declared.chan.bits16.Ch16.{Ch16}
use Rattle.pix_chan.specs.Planes.{last_of_two}
use Rattle.pix_chan.proofs.Words.{both_last}
use Rattle.pix_chan.proofs.chan.bits16.Ch16Channel.alphas16.Goals as goal

pub returns : goal.returns
returns c =
    let v : Ch16 → ℕ = λ x. x.value in
    let first = c.store.ensures in
    let second = c.store-2.ensures in
    let one : length c.store.new.to ≡ 16 = omega (arith, ap length first) in
    let two : length c.store-2.new.to ≡ 16 = omega (arith, ap length second) in
    both_last v c.args.pixels c.store.new.to c.store-2.new.to (omega arith) one two
    (ap (map v) first ∙ c.channels-first.ensures ∙ c.twice_last.ensures ∙ ap last_of_two c.units.ensures)
    (ap (map v) second ∙ c.channels-second.ensures ∙ c.twice_last-2.ensures ∙ ap last_of_two c.units-2.ensures)
