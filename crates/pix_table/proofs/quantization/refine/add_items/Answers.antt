-- Of `add_items`: that both sums are together those of one item more after each turn, and that they fit.
use Rattle.std.proofs.Common.{◌≡◌, ◌+◌, ◌-◌, ◌*◌, ◌<◌, length, map, set, get_or, refl, arith, sym, ◌∙◌, subst, length-set}
use Rattle.std.proofs.lemmas.List.{get_or_default, length-replicate}
use Rattle.std.proofs.lemmas.Nat.{mul-le}
use Rattle.pix_table.specs.quantization.Groups.{AreItemGroups}
use Rattle.pix_table.specs.matching.Nearest.{IsNearest, numbers}
use Rattle.pix_table.specs.declared.quantization.box_sums.Sums.{Sums}
use Rattle.pix_table.specs.declared.quantization.sums64.Sums64.{Sums64}
use Rattle.pix_table.proofs.lemmas.quantization.FewGroups.{grouped_same, little_more, little_none, together_more, together_none}
use Rattle.pix_table.proofs.lemmas.quantization.ItemGroups.{count_below, grouped_more}
use Rattle.pix_table.proofs.quantization.refine.add_items.Goals as goal

abbrev nothing : Sums
nothing = record { count = 0; red = 0; green = 0; blue = 0 }

abbrev none : Sums64
none = record { count = 0; red = 0; green = 0; blue = 0 }

pub loop-k-init : goal.loop-k-init
loop-k-init g c =
    let e = c.none-few.ensures in
    let r = c.requires.grouped in
    record {
      grouped = λ entries finds long h. (
        c.args.sums.now,
        together_none c.args.sums.now 256 c.none-few.result (omega (arith, r.2, r.3)) e.count e.red e.green e.blue,
        h,
      );
      long = length-replicate 256 c.none-few.result;
      little = little_none (65535 * (c.args.start - c.args.start)) 256 c.none-few.result e.count e.red e.green e.blue;
      same = λ entries finds. finds;
    }

pub loop-k-preserved : goal.loop-k-preserved
loop-k-preserved g c =
    let xs = map numbers c.args.colors.now in
    let clr = c.item-count.result.0 in
    let n = c.item-count.result.1 in
    let v = c.from-entry.result in
    let few = c.loop-k.few in
    let old : Sums64 = get_or c.loop-k.few c.from-entry.result none in
    let e = c.with.ensures in
    let room : c.from-entry.result < length c.loop-k.few = omega (arith, c.loop-k.invariant.long) in
    let read : get_or c.loop-k.few c.from-entry.result none ≡ get_or c.loop-k.few c.from-entry.result (get_or c.loop-k.few c.from-entry.result none) =
    get_or_default few v none old room in
    record {
      grouped = λ entries finds long before.
          let h = c.loop-k.invariant.grouped entries finds long before in
          let is : IsNearest entries (numbers c.item-count.result.0) c.from-entry.result =
          subst (IsNearest entries (numbers clr)) (sym c.from-entry.ensures) (c.nearest_entry.ensures.nearest entries (c.loop-k.invariant.same entries finds)) in
          let all = h.0 in
          let was : Sums = get_or h.0 c.from-entry.result nothing in
          let new : Sums = record {
            count = was.count + n;
            red = was.red + n * clr.red;
            green = was.green + n * clr.green;
            blue = was.blue + n * clr.blue;
          } in
          let seen : get_or h.0 c.from-entry.result nothing ≡ get_or h.0 c.from-entry.result (get_or h.0 c.from-entry.result nothing) =
          get_or_default all v nothing was (omega (arith, h.1.many, long, is.stands)) in (
            set all v new,
            together_more c.args.sums.now all few v n (n * clr.red) (n * clr.green) (n * clr.blue) old c.with.result was new (omega (arith, long, is.stands)) room
                read seen e.count e.red e.green e.blue refl refl refl refl h.1,
            grouped_more entries xs c.args.items.pairs c.loop-k.k n v all clr was new (sym c.item-count.ensures.count) (sym c.item-count.ensures.color) e.bytes is
                (h.1.many ∙ long) seen refl refl refl refl h.2,
          );
      long = length-set few v c.with.result ∙ c.loop-k.invariant.long;
      little = little_more few v n (n * clr.red) (n * clr.green) (n * clr.blue) old c.with.result room read e.count e.red e.green e.blue
          (65535 * (c.loop-k.k - c.args.start)) (65535 * (c.loop-k.k + 1 - c.args.start)) (omega (arith, c.loop-k.auto.k))
          (omega (arith, mul-le n clr.red n 255 (omega arith) (e.bytes 0))) (omega (arith, mul-le n clr.green n 255 (omega arith) (e.bytes 1)))
          (omega (arith, mul-le n clr.blue n 255 (omega arith) (e.bytes 2))) c.loop-k.invariant.little;
      same = λ entries finds. c.nearest_entry.ensures.same entries (c.loop-k.invariant.same entries finds);
    }

pub add_few-requires-clause-count : goal.add_few-requires-clause-count
add_few-requires-clause-count g c = λ k d e inside.
    let r = c.requires.grouped in
    let h = c.loop-k.invariant.grouped r.0 r.1 r.2 r.4 in
    omega (
      arith,
      (h.1.each k d e d inside).count,
      count_below r.0 (map numbers c.args.colors.now) c.args.items.pairs c.loop-k.k (c.args.items.pairs + c.args.items.singles) k 18446744073709551616 h.0 d
          (omega (arith, r.2, inside)) (omega (arith, c.requires.inside)) c.requires.count h.2,
    )

pub add_few-requires-clause-few_bytes : goal.add_few-requires-clause-few_bytes
add_few-requires-clause-few_bytes g c = λ k e inside.
    c.loop-k.invariant.little.bytes k e (omega (arith, c.requires.grouped.2, c.requires.grouped.3, c.loop-k.invariant.long, inside))

pub returns-clause-grouped : goal.returns-clause-grouped
returns-clause-grouped g c = λ entries finds long before.
    let h = c.loop-k.invariant.grouped entries finds long before in
    let all : c.loop-k.k ≡ c.args.end = omega arith in
    subst (λ n. AreItemGroups entries (map numbers c.args.colors.now) c.args.items.pairs n c.add_few.new.sums) all
    (grouped_same entries (map numbers c.args.colors.now) c.args.items.pairs c.loop-k.k c.args.sums.now h.0 c.add_few.new.sums c.loop-k.few none long h.1
    c.add_few.ensures.together h.2)
