-- Of `Lists::take_memory`: that places which are made have no entry.
use Rattle.std.proofs.Common.{◌≡◌, length, arith}
use Rattle.pix_palette.proofs.Finders.{places_made}
use Rattle.pix_palette.proofs.palette.lists.Lists.take_memory.Goals as goal

pub returns-clause-lists : goal.returns-clause-lists
returns-clause-lists c = λ placing colors f.
    let none : length c.in-Ok-with_capacity.earlier.items ≡ 0 = omega (arith, c.in-Ok-with_capacity.ensures.len) in
    places_made placing colors c.in-Ok.latest.items c.in-Ok-with_capacity.earlier.items (c.in-Ok.ensures.items_if_clones_equal (λ y e. e)) none
