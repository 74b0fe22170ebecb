use Rattle.std.proofs.Common.{◌≡◌, ◌+◌, ◌*◌, ◌<◌, map, [], rules, refl, ◌∙◌, ap, get_or, length, replicate}
use Rattle.std.proofs.lemmas.List.{with_items_is}
use Rattle.pix_raster.proofs.Places.{place_within}
use Rattle.pix_raster.proofs.Clear.{cleared_place}
use Rattle.pix_raster.proofs.raster.Raster.clear.Goals as goal

pub returns : goal.returns
returns g c =
    let n = g.P.Pixel.numbers in
    let none : n c.default.result ≡ replicate g.P.Pixel.layout.count 0 = g.met.P.Pixel.default_is_clear c.default.result c.default.ensures in
    let long : length c.deref_mut.result.now ≡ c.self.inside.height * c.self.inside.width = search rules in
    rw (← c.self.view_is) (record {
      same_width = refl;
      same_height = refl;
      points = λ x y hx hy.
          let place = y * c.self.inside.width + x in
          let within : place < c.self.inside.height * c.self.inside.width = place_within x y c.self.inside.width c.self.inside.height hx hy in
          ap (λ l. get_or (map n l) place []) (with_items_is c.self.inside.pixels c.copy_color.new.dst (search rules))
          ∙ ap (λ l. get_or (map n l) place []) c.copy_color.ensures
          ∙ cleared_place n c.default.result _ place [] (rw long within)
          ∙ none;
    })
