-- `contents_faulty` meets its contract: each tag.
use borrow.Author.Rules.{rules}
use Rattle.image_sieve.proofs.Laws.{connector-inside, input-inside, output-inside, head-are, text-are, connector-are, input-are, output-are, others-are}
use Rattle.image_sieve.proofs.Sieve.contents_faulty.Goals as goal

pub connector_faulty-requires : goal.connector_faulty-requires
connector_faulty-requires c = search (connector-inside, rules)

pub boundary_faulty-requires : goal.boundary_faulty-requires
boundary_faulty-requires c = search (input-inside, rules)

pub boundary_faulty-requires-in-8 : goal.boundary_faulty-requires-in-8
boundary_faulty-requires-in-8 c = search (output-inside, rules)

pub returns-in-1 : goal.returns-in-1
returns-in-1 c = search (head-are, rules)

pub returns-in-2 : goal.returns-in-2
returns-in-2 c = search (text-are, rules)

pub returns-in-4 : goal.returns-in-4
returns-in-4 c = search (connector-are, rules)

pub returns-in-7 : goal.returns-in-7
returns-in-7 c = search (input-are, rules)

pub returns-in-8 : goal.returns-in-8
returns-in-8 c = search (output-are, rules)

pub returns-in_default : goal.returns-in_default
returns-in_default c = search (others-are, rules)
