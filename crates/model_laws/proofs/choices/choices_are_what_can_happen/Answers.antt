use Rattle.model_laws.proofs.Choosing.{can_chosen, choice_can, choices_once}
use Rattle.model_laws.proofs.choices.choices_are_what_can_happen.Goals as goal

pub returns-clause-members : goal.returns-clause-members
returns-clause-members c plan s e = (choice_can plan s e, can_chosen plan s e)

pub returns-clause-once : goal.returns-clause-once
returns-clause-once c s = choices_once s
