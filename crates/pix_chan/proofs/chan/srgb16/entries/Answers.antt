use Rattle.std.proofs.Common.{◌∙◌, refl}
use Rattle.pix_chan.proofs.Planes.{cons}
use Rattle.pix_chan.proofs.SrgbLanes.{entries_are}
use Rattle.pix_chan.proofs.chan.srgb16.entries.Goals as goal

pub returns : goal.returns
returns c =
    cons c.entry_at.ensures (cons c.entry_at-2.ensures (cons c.entry_at-3.ensures (cons c.entry_at-4.ensures
    (cons c.entry_at-5.ensures (cons c.entry_at-6.ensures (cons c.entry_at-7.ensures (cons c.entry_at-8.ensures
    (cons c.entry_at-9.ensures (cons c.entry_at-10.ensures (cons c.entry_at-11.ensures (cons c.entry_at-12.ensures
    (cons c.entry_at-13.ensures (cons c.entry_at-14.ensures (cons c.entry_at-15.ensures (cons c.entry_at-16.ensures refl)))))))))))))))
    ∙ entries_are c.args.channels c.words-w.result c.fits-channels.0 c.fits-channels.1 c.words-w.ensures
