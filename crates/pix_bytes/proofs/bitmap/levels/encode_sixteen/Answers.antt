use Rattle.std.proofs.Common.{ℕ, List, refl, arith}
use borrow.Rule.Slice.PartMut.{put_mid}
use Rattle.pix_bytes.specs.Rows.{IsEach}
use Rattle.pix_bytes.specs.Shown.{shown}
use Rattle.pix_bytes.proofs.Parts.{each_none, each_part}
use Rattle.pix_bytes.proofs.bitmap.levels.encode_sixteen.Goals as goal

pub returns : goal.returns
returns c =
    let src : List ℕ = c.args.src.now in
    let f : List ℕ → List ℕ = shown c.args.is_reversed in
    let one : List ℕ = put_mid 0 16 c.args.dst.now c.put_encoded.new.dst in
    let two : List ℕ = put_mid 16 16 one c.put_encoded-2.new.dst in
    let three : List ℕ = put_mid 32 16 two c.put_encoded-3.new.dst in
    let four : List ℕ = put_mid 48 16 three c.put_encoded-4.new.dst in
    let none : IsEach 65535 255 4 4 8 4 f src c.args.dst.now 0 = each_none 65535 255 4 4 8 4 f src c.args.dst.now in
    let first : IsEach 65535 255 4 4 8 4 f src one 4 =
    each_part 65535 255 4 4 8 4 f src c.args.dst.now c.put_encoded.new.dst 0 4 0 0 16 none refl refl refl (omega arith) (omega arith) c.put_encoded.ensures in
    let second : IsEach 65535 255 4 4 8 4 f src two 8 =
    each_part 65535 255 4 4 8 4 f src one c.put_encoded-2.new.dst 4 4 32 16 16 first refl refl refl (omega arith) (omega arith) c.put_encoded-2.ensures in
    let third : IsEach 65535 255 4 4 8 4 f src three 12 =
    each_part 65535 255 4 4 8 4 f src two c.put_encoded-3.new.dst 8 4 64 32 16 second refl refl refl (omega arith) (omega arith) c.put_encoded-3.ensures in
    each_part 65535 255 4 4 8 4 f src three c.put_encoded-4.new.dst 12 4 96 48 16 third refl refl refl (omega arith) (omega arith) c.put_encoded-4.ensures
