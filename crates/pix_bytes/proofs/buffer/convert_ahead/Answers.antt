use Rattle.std.proofs.Common.{◌<◌, ◌∙◌, ap, sym, arith}
use Rattle.std.specs.Option.{option_map}
use Rattle.pix_bytes.specs.Rows.{stored_of}
use Rattle.pix_bytes.proofs.ConvertedAhead.{stored_as, bytes_as, ahead_as}
use Rattle.pix_bytes.proofs.buffer.convert_ahead.Goals as goal

pub convert_row_ahead-requires-clause-src : goal.convert_row_ahead-requires-clause-src
convert_row_ahead-requires-clause-src c =
    let lt : c.args.from < 12 = omega arith in
    let is = stored_as c.args.from c.in-Some-Some.format lt (ap (option_map stored_of) (sym c.in-Some-Some.is-0) ∙ c.from_number.ensures.value) in
    bytes_as c.args.from c.args.count c.in-Some-Some.format c.args.src.now lt is c.requires.src

pub convert_row_ahead-requires-clause-dst : goal.convert_row_ahead-requires-clause-dst
convert_row_ahead-requires-clause-dst c =
    let lt : c.args.to < 12 = omega arith in
    let is = stored_as c.args.to c.in-Some-Some.target lt (ap (option_map stored_of) (sym c.in-Some-Some.is-1) ∙ c.from_number-2.ensures.value) in
    bytes_as c.args.to c.args.count c.in-Some-Some.target c.args.dst.now lt is c.requires.dst

pub returns-in-Some-Some-clause-each : goal.returns-in-Some-Some-clause-each
returns-in-Some-Some-clause-each c = λ format target found to_found.
    let lt : c.args.from < 12 = omega arith in
    let to_lt : c.args.to < 12 = omega arith in
    let is = stored_as c.args.from c.in-Some-Some.format lt (ap (option_map stored_of) (sym c.in-Some-Some.is-0) ∙ c.from_number.ensures.value) in
    let to_is = stored_as c.args.to c.in-Some-Some.target to_lt (ap (option_map stored_of) (sym c.in-Some-Some.is-1) ∙ c.from_number-2.ensures.value) in
    ahead_as c.args.from c.args.to format target c.in-Some-Some.format c.in-Some-Some.target c.convert_row_ahead.result c.args.count c.args.src.now c.convert_row_ahead.new.dst lt to_lt found to_found is to_is
    c.convert_row_ahead.ensures.some c.requires.src (omega arith) c.convert_row_ahead.ensures.each
