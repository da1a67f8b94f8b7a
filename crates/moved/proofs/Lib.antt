-- Demand 3 (FORMAT 18), in steps. Each file takes what the ones before it give; Demand has parts 3 to 7 over the definitions, Moved the demand of the two buffers of a checking call.
-- what is taken of every image
pub mod Bytes
-- what no error says of the model, and that its clusters share no slot
pub mod NoError
pub mod Stars
pub mod Clusters
-- rule 6: nothing declared changes, one detail of one cluster, all members end with one key
pub mod Kept
pub mod OneDetail
pub mod Settled
-- what rule 6 keeps of the attributes of an accepted image: the widths of their numbers, and what refusals 6 and 8 ask
pub mod Invariants
pub mod Widths
pub mod WellFormed
-- one range and alike texts; a value inside a range; values along connections
pub mod SameRange
pub mod SomeValue
pub mod Flow
-- the filled bytes: where slots stand, the model read again, accepted again, undone with an error; then of every accepted image
pub mod Regions
pub mod Refilled
pub mod AcceptedAgain
pub mod Undone
pub mod FilledImage
-- the demand, of models and of buffers
pub mod Demand
pub mod Moved
-- a model that meets its premises, what its definitions say no to, and a model that shows that the premise on kinds is needed
pub mod Witness
