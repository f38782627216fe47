-- The laws of values, of what the histories of resources keep.
use Rattle.sl_safety.proofs.Grant.GrantLaws.{exclusive_grants_are, exclusives_are_kept, shared_are_shared}
use Rattle.sl_run.specs.Values.{ValueTheorem}
use Rattle.sl_safety.proofs.HistoriesAreLawful.{are_lawful, keep_instances}
use Rattle.sl_safety.proofs.Value.ValuesAreLast.{values_are_last_given}
use Rattle.sl_safety.proofs.Value.OneValueWrite.{Grounds, holders_keep_given, one_writes_given}
use Rattle.sl_safety.specs.Value.ValueWrites.{HoldersKeepValues, OneWritesValue}

grounds : Grounds
grounds =
    record {
      lawful = are_lawful;
      instances = keep_instances;
      granted = exclusive_grants_are;
      exclusives = exclusives_are_kept;
      shared = shared_are_shared;
    }

pub one_writes_value : OneWritesValue
one_writes_value = one_writes_given grounds

pub holders_keep_values : HoldersKeepValues
holders_keep_values = holders_keep_given grounds

pub values_are_last : ValueTheorem
values_are_last = values_are_last_given one_writes_value holders_keep_values
