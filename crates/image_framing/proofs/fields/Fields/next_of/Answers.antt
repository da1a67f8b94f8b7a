-- `Fields::next_of` meets its contract: by whether a whole field stands there, and its tag.
use mathlib.Core.Path.{refl, sym, ◌∙◌}
use Rattle.image_framing.proofs.Rests.{next-given, rest-none, rest-next, not-first, not-none}
use Rattle.image_framing.proofs.fields.Fields.next_of.Goals as goal

pub returns-in_err-l-clause-left : goal.returns-in_err-l-clause-left
returns-in_err-l-clause-left c = λ e. (refl, not-none _ (sym c.self.view_is ∙ rest-none _ _ _ _ c.in_err-l.ensures.whole))

pub returns-then-from-tag-clause-left : goal.returns-then-from-tag-clause-left
returns-then-from-tag-clause-left c = λ e. (refl, not-first (sym c.self.view_is ∙ rest-next _ _ _ _ c.in_ok-l.ensures.whole refl refl) (λ q. c.if-from-tag.true (c.from.ensures ∙ q)))

pub returns-clause-given : goal.returns-clause-given
returns-clause-given c = next-given _ _ _ _ c.in_ok-l.ensures.whole c.self.view_is c.field_of-field.ensures (c.self-2.view_is ∙ c.behind.ensures) c.from.ensures c.if-from-tag.false
