use Rattle.std.proofs.Common.{sym, ◌∙◌, ap}
use Rattle.std.specs.Prelude.{codes}
use Rattle.hy_val.specs.declared.operator.UnOp.TheVariants.{ZeroExtend}
use Rattle.type_pass.proofs.TableLaws.{extended, extension-by}
use Rattle.type_pass.proofs.meaning.zero_extension.Goals as goal

pub returns-in-None : goal.returns-in-None
returns-in-None c =
    sym (extension-by (codes "zero_extend") (λ k. ZeroExtend k) c.args.text.now c.as_slice-front.result.now c.as_slice.result.now c.amount_behind.result c.as_slice-front.ensures c.as_slice.ensures c.amount_behind.ensures
    ∙ ap (extended (λ k. ZeroExtend k)) c.in-None.is)

pub returns-in-Some : goal.returns-in-Some
returns-in-Some c =
    sym (extension-by (codes "zero_extend") (λ k. ZeroExtend k) c.args.text.now c.as_slice-front.result.now c.as_slice.result.now c.amount_behind.result c.as_slice-front.ensures c.as_slice.ensures c.amount_behind.ensures
    ∙ ap (extended (λ k. ZeroExtend k)) c.in-Some.is)
