use Rattle.history_laws.proofs.Unique.{same_place, operation_once, the_history, record_once, one_final_map}
use Rattle.history_laws.proofs.logs.one_history.Goals as goal

pub returns-clause-place : goal.returns-clause-place
returns-clause-place c log x y h k e = same_place log x y h k e

pub returns-clause-once : goal.returns-clause-once
returns-clause-once c log history i j x y h p q e = operation_once log history h i j x y p q e

pub returns-clause-history : goal.returns-clause-history
returns-clause-history c log a b h k = the_history log a b h k

pub returns-clause-key_once : goal.returns-clause-key_once
returns-clause-key_once c log history map i j x y h p q e = record_once log history map h i j x y p q e

pub returns-clause-map : goal.returns-clause-map
returns-clause-map c log history a b h k = one_final_map log history a b h k
