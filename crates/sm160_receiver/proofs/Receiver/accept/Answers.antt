-- `sm160_receiver::Receiver::accept` meets its contract.
use mathlib.Core.Path.{◌≡◌, refl, sym, ◌∙◌}
use Rattle.sm160_frame.specs.Layout.{offset_of}
use Rattle.sm160_receiver.proofs.Steps.{start_at, others_at, accepts_last, accepts_other}
use Rattle.sm160_receiver.proofs.Receiver.accept.Goals.{then-start, else-start}
use Rattle.sm160_receiver.proofs.Receiver.accept.Goals as goal

pub returns-then-is_end : goal.returns-then-is_end
returns-then-is_end c =
    let a = c.args in
    let starts = c.is_start-start.ensures in
    let at : c.if-start.at ≡ offset_of a.frame.now =
    elim c.if-start.branch [
      | then-start w ↦ w.at-is ∙ start_at a.self.now a.frame.now a.buffer.now c.requires (sym starts ∙ w.if-start.true)
      | else-start w ↦ w.at-is ∙ others_at a.self.now a.frame.now a.buffer.now c.requires (sym starts ∙ w.if-start.false)
    ] in
    accepts_last a.self.now a.frame.now a.buffer.now _ _ _ _ c.reach-reached.ensures at (cc) (sym c.is_end.ensures ∙ c.if-is_end.true) refl

pub returns-else-is_end : goal.returns-else-is_end
returns-else-is_end c =
    let a = c.args in
    let starts = c.is_start-start.ensures in
    let at : c.if-start.at ≡ offset_of a.frame.now =
    elim c.if-start.branch [
      | then-start w ↦ w.at-is ∙ start_at a.self.now a.frame.now a.buffer.now c.requires (sym starts ∙ w.if-start.true)
      | else-start w ↦ w.at-is ∙ others_at a.self.now a.frame.now a.buffer.now c.requires (sym starts ∙ w.if-start.false)
    ] in
    accepts_other a.self.now a.frame.now a.buffer.now _ _ _ _ c.reach-reached.ensures at (cc) (sym c.is_end.ensures ∙ c.if-is_end.false) refl
