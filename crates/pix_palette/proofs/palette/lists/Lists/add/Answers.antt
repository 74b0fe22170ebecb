-- Of `Lists::add`: the clause `added`.
use Rattle.std.proofs.Common.{◌≡◌, ◌∷◌, ◌++◌, [], length, arith}
use Rattle.pix_palette.proofs.Finders.{color_added}
use Rattle.pix_palette.proofs.palette.lists.Lists.add.Goals as goal

pub returns-clause-added : goal.returns-clause-added
returns-clause-added c = λ placing colors f inside at.
    let latest = c.args.self.now.latest.items in
    let earlier = c.args.self.now.earlier.items in
    let before = c.index-before.result.now in
    let items : c.push_reserved.new.self.items ≡ earlier ++ before ∷ [] = c.push_reserved.ensures.items in
    let count : c.len-count.result ≡ length earlier = omega arith in
    rw (items, count) (color_added placing colors latest earlier c.args.place before f c.requires.made inside at c.requires.below c.index-before.ensures)
