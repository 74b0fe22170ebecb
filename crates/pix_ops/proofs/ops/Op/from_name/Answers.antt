-- Of `Op::from_name`: that it finds the operator of the name, in a list of any length.
use Rattle.std.proofs.Common.{rules, tests, sym, ◌∙◌}
use Rattle.std.specs.Str.{bytes_eq}
use Rattle.std.proofs.lemmas.Iterator.Adapters.{option_map_id}
use Rattle.std.proofs.lemmas.Iterator.{YieldsList-from_slice}
use Rattle.std.proofs.lemmas.Iterator.Consumers.{YieldsList-from_copied}
use Rattle.std.proofs.lemmas.Iterator.Search.{find_from_yields_List}
use Rattle.pix_ops.specs.OperatorNames.{operators, op_name, operator_of}
use Rattle.pix_ops.proofs.ops.Op.from_name.Goals as goal

pub returns : goal.returns
unfolding operator_of
returns c = sym (option_map_id _) ∙ find_from_yields_List (λ op. bytes_eq c.args.name.now (op_name op)) _ _ _ c.find.ensures.ran (YieldsList-from_copied (YieldsList-from_slice operators cc)) (λ x b q k. search (rules, tests))
