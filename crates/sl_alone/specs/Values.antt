-- A value as a holder reads it.
use Rattle.sl_alone.specs.declared.values.Value.{Value}
use Rattle.sl_sector.specs.declared.sector.ValueRec.{ValueRec}
use Rattle.sl_value.specs.Versions.{version_of}

abbrev pub value_in : ValueRec → Value
value_in v = record { version = version_of v; bytes = v.bytes }
