-- A text of the image, or a part of the scratch.
use Rattle.std.proofs.Common.{sym, ◌∙◌}
use Rattle.subject.proofs.Laws.{label_from, text-part, other-part}
use Rattle.subject.proofs.accepted_subject.Goals as goal

pub returns-in-Text : goal.returns-in-Text
returns-in-Text c = c.text.ensures ∙ text-part _ _ _ _ (sym c.subject_from.ensures ∙ c.in-Text.is)

pub returns-in_default : goal.returns-in_default
returns-in_default c =
    c.read_label.ensures
    ∙ rw (c.subject_from.ensures, label_from c.args.kind c.args.number) (other-part _ _ _ _ (λ t e. c.in_default.not-Text t (c.subject_from.ensures ∙ e)))
