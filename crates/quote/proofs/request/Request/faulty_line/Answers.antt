use Rattle.std.proofs.Common.{ap, ◌∙◌}
use Rattle.quote.specs.Faulty.{line_told}
use Rattle.quote.specs.Requests.{order_in}
use Rattle.quote.proofs.Faulting.{neither_line, no_line}
use Rattle.quote.proofs.request.Request.faulty_line.Goals as goal

pub returns-in_err-text : goal.returns-in_err-text
returns-in_err-text c = ap line_told c.from_residual-in_err-text.ensures ∙ neither_line (order_in c.args.self.now) _ _ c.in_ok-fault.fault c.in_err-text.was c.in_ok-fault.ensures

pub returns-in_err-number : goal.returns-in_err-number
returns-in_err-number c = ap line_told c.from_residual-in_err-number.ensures ∙ no_line (order_in c.args.self.now) _ _ c.in_ok-fault.fault c.in_err-number.was c.in_ok-fault.ensures
