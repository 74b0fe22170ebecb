use Rattle.std.proofs.Common.{◌≡◌, ◌<◌, ◌∙◌, length, arith}
use Rattle.pix_bytes.proofs.ConvertedAhead.{stored_named, bytes_named, usual_as}
use Rattle.pix_bytes.proofs.bitmap.convert_numbered.Goals as goal

pub convert_usual-requires-clause-src : goal.convert_usual-requires-clause-src
convert_usual-requires-clause-src c =
    let lt : c.args.number < 12 = omega arith in
    bytes_named c.args.number c.args.count c.args.from c.args.src.now lt (stored_named c.args.number c.args.from lt c.requires.named) c.requires.src

pub convert_usual-requires-clause-dst : goal.convert_usual-requires-clause-dst
convert_usual-requires-clause-dst c =
    let lt : c.args.to_number < 12 = omega arith in
    bytes_named c.args.to_number c.args.count c.args.to c.args.dst.now lt (stored_named c.args.to_number c.args.to lt c.requires.to_named) c.requires.dst

pub returns-then-to_number-lt12 : goal.returns-then-to_number-lt12
returns-then-to_number-lt12 c =
    let lt : c.args.number < 12 = omega arith in
    let to_lt : c.args.to_number < 12 = omega arith in
    let long : length c.convert_usual.new.dst ≡ length c.args.dst.now = omega arith in
    usual_as c.args.number c.args.to_number c.args.from c.args.to c.args.count c.args.src.now c.convert_usual.new.dst lt to_lt
    (stored_named c.args.number c.args.from lt c.requires.named) (stored_named c.args.to_number c.args.to to_lt c.requires.to_named)
    c.requires.src (long ∙ c.requires.dst) c.convert_usual.ensures
