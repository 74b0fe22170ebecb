-- What holds at each turn of the loop over `ch` in `PixCh8Bytes::write`.
use Rattle.std.proofs.Common.{◌≡◌, ℕ, ◌<◌, length, map, get_or}
use Rattle.pix_chan.specs.declared.chan.bits8.Ch8.{Ch8}
use Rattle.pix_bytes.proofs.buffer.bytes.PixCh8Bytes.write.Given as goal

-- there are as many bytes as channels, and those below the channel number are the channels
abbrev pub invariant-loop-ch : goal.invariant-loop-ch
invariant-loop-ch g l =
    (length l.own ≡ g.row.N) × ((k : ℕ) → k < l.ch → get_or l.own k 0 ≡ get_or (map (λ (c : Ch8). c.value) l.channels) k 0)
