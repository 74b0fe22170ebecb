-- Of `Finder::follow`: that it follows where memory is refused, and that the invariant of its loop
-- over `i` holds at first and stays.
use Rattle.std.proofs.Common.{◌≡◌, [], length, map, get_or, refl, sym, ap, ◌∙◌, arith}
use Rattle.std.proofs.lemmas.List.{length-map, get_or-map}
use Rattle.pix_palette.specs.Palette.{numbers}
use Rattle.pix_palette.specs.Finder.{place, place_at}
use Rattle.pix_palette.proofs.palette.finder.Finder.follow.Goals as goal

pub returns-then-not-make-clause-finder : goal.returns-then-not-make-clause-finder
returns-then-not-make-clause-finder c = record {
  places = c.make.ensures.lists (map numbers c.args.colors.now) c.requires.places;
  near = rw (c.make.ensures.near) c.requires.near;
}

pub loop-i-init : goal.loop-i-init
loop-i-init c = record {
  finder = record {
    places = c.make.ensures.lists (map numbers c.args.colors.now) c.requires.places;
    near = rw (c.make.ensures.near) c.requires.near;
  };
  made = c.if-not-make.ensures.made (map numbers c.args.colors.now) c.requires.places refl;
  count = omega (arith, c.len-i.ensures);
}

pub returns-then-not-add-clause-finder : goal.returns-then-not-add-clause-finder
returns-then-not-add-clause-finder c =
    let colors = map numbers c.args.colors.now in
    let entry : get_or colors (length c.loop-i.self.lists.earlier.items) [] ≡ numbers c.index-colors-i.result =
    ap (λ k. get_or colors k []) c.loop-i.invariant.count
    ∙ get_or-map numbers c.args.colors.now c.loop-i.i c.index-colors-i.result [] (omega arith) ∙ sym (ap numbers c.index-colors-i.is) in
    let at : place_at place colors (length c.loop-i.self.lists.earlier.items) ≡ c.place_of.result = ap place entry ∙ sym c.place_of.ensures.place in
    record {
      places = c.add.ensures.added place colors c.loop-i.invariant.finder.places
          (omega (arith, c.loop-i.invariant.count, length-map c.args.colors.now numbers)) at;
      near = c.loop-i.invariant.finder.near;
    }

pub loop-i-preserved : goal.loop-i-preserved
loop-i-preserved c =
    let colors = map numbers c.args.colors.now in
    let entry : get_or colors (length c.loop-i.self.lists.earlier.items) [] ≡ numbers c.index-colors-i.result =
    ap (λ k. get_or colors k []) c.loop-i.invariant.count
    ∙ get_or-map numbers c.args.colors.now c.loop-i.i c.index-colors-i.result [] (omega arith) ∙ sym (ap numbers c.index-colors-i.is) in
    let at : place_at place colors (length c.loop-i.self.lists.earlier.items) ≡ c.place_of.result = ap place entry ∙ sym c.place_of.ensures.place in
    record {
      finder = record {
        places = c.add.ensures.added place colors c.loop-i.invariant.finder.places
            (omega (arith, c.loop-i.invariant.count, length-map c.args.colors.now numbers)) at;
        near = c.loop-i.invariant.finder.near;
      };
      made = c.add.ensures.made;
      count = omega (arith, c.loop-i.invariant.count, c.if-not-add.ensures.one refl);
    }
