use Rattle.std.proofs.Common.{◌≡◌, ◌∙◌, Option, Some, None, map, get_or, refl, ap, sym, arith}
use Rattle.std.specs.Option.{unwrap_or, option_map}
use Rattle.std.proofs.Math.ListN.{get_or-map}
use Rattle.pix_el.proofs.el.Pixel.get.Goals as goal

-- a part of what an option has, or of what is taken where it has nothing
part_of : {X Y : Type 0} (f : X → Y) (o : Option X) (d : X) → f (unwrap_or o d) ≡ unwrap_or (option_map f o) (f d)
part_of f None d = refl
part_of f (Some x) d = refl

pub returns : goal.returns
returns g c =
    let n = g.Self.Chan.Channel.number in
    let list = c.channels.result.now in
    let top = c.MAX.result in
    let is_max : n top ≡ g.Self.Chan.Channel.max = ap n c.MAX.ensures ∙ g.met.Self.Chan.Channel.max_is_maximum in
    ap (λ r. n r.now) c.unwrap_or.ensures
    ∙ ap n (part_of (λ r. r.now) c.get.result _ ∙ c.get.ensures.lookup.4 (omega arith) top)
    ∙ sym (get_or-map n list c.args.ch top)
    ∙ ap (λ d. get_or (map n list) c.args.ch d) is_max
    ∙ ap (λ l. get_or l c.args.ch g.Self.Chan.Channel.max) (ap (map n) c.channels.ensures.channels ∙ sym (g.met.Self.Pixel.numbered c.args.self.now))
