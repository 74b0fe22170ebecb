use Rattle.std.proofs.Common.{◌≡◌, List, length, get_or, map, sym, ap, ◌∙◌, arith}
use Rattle.std.proofs.lemmas.List.{length-map}
use Rattle.std.proofs.lemmas.Grind.{same_number_lists}
use Rattle.pix_chan.specs.declared.chan.bits8.Ch8.{Ch8}
use Rattle.pix_bytes.proofs.buffer.bytes.PixCh8Bytes.write.Goals as goal

pub returns : goal.returns
returns g c =
    let value = λ (c : Ch8). c.value in
    let own = c.loop-ch.own in
    let same : c.channels-channels.result.now ≡ c.args.self.now.channels = c.channels-channels.ensures.channels in
    let long : length c.args.self.now.channels ≡ g.row.N = sym (ap length same) ∙ c.channels-channels.ensures.count in
    let wide : length own ≡ g.row.N = c.loop-ch.invariant.0 in
    c.copy_from_slice.ensures.after
    ∙ same_number_lists own (map value c.args.self.now.channels) (wide ∙ sym long ∙ sym (length-map c.args.self.now.channels value))
    (λ k h. c.loop-ch.invariant.1 k (omega arith) ∙ ap (λ (l : List Ch8). get_or (map value l) k 0) same)
