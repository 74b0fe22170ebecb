-- Of `Terms::product`: that few terms have few products.
use Rattle.std.proofs.Common.{arith}
use Rattle.pix_table.proofs.lemmas.quantization.SeenErrors.{product_few}
use Rattle.pix_table.proofs.rgba.groups.Terms.product.Goals as goal

pub overflow_add-result-3 : goal.overflow_add-result-3
overflow_add-result-3 c =
    let p = c.args.self in
    let q = c.args.by in
    let r = c.requires in
    omega (
      arith,
      product_few p.red p.green p.blue p.rest q.red q.green q.blue q.rest 4722366482869645213696 r.red r.green r.blue r.by_red r.by_green r.by_blue,
    )

pub returns-clause-few : goal.returns-clause-few
returns-clause-few c = λ most red green blue.
    let p = c.args.self in
    let q = c.args.by in
    let r = c.requires in
    product_few p.red p.green p.blue p.rest q.red q.green q.blue q.rest most r.red r.green r.blue red green blue
