-- `decompose::decompose` meets its contract: the checks, then the passes.
use Rattle.std.proofs.Common.{rules}
use Rattle.decompose.specs.Promise.{lengths_of}
use Rattle.decompose.proofs.Answers.{refused, tables}
use Rattle.decompose.proofs.decompose.Goals as goal

pub returns-in_err-first_refusal : goal.returns-in_err-first_refusal
unfolding lengths_of
returns-in_err-first_refusal c = refused c.in_err-first_refusal.field-0.0 (search rules) c.in_err-first_refusal.ensures

pub returns : goal.returns
unfolding lengths_of
returns c = tables c.in_ok-first_refusal.ensures c.three_passes.ensures
