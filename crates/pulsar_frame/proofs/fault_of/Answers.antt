-- `pulsar_frame::fault_of` meets its contract.
use mathlib.Core.Path.{sym, ap, ◌∙◌}
use Rattle.pulsar_frame.specs.declared.Fault.TheVariants.{Missing}
use Rattle.pulsar_frame.proofs.OnItsWay.{lacks_some, refused_alone}
use Rattle.pulsar_frame.proofs.fault_of.Goals as goal

pub returns-in-OnItsWay : goal.returns-in-OnItsWay
returns-in-OnItsWay c = λ n e. ap Missing c.missing.ensures ∙ lacks_some _ n (sym c.in-OnItsWay.is ∙ e)

pub returns-in_default : goal.returns-in_default
returns-in_default c = λ n e. refused_alone _ _ n c.in_default.not-OnItsWay e
