-- The version of the value that was submitted last, by what is kept of it.
use Rattle.sl_host_state.specs.declared.kept_parts.ValuePair.{ValuePair}
use Rattle.sl_value.specs.declared.value.Version.{Version}
use Rattle.std.specs.Prelude.{Option, option_map}

abbrev pub version_in : ValuePair → Version
version_in v = record { lver = v.lver; seq = v.seq }

abbrev pub last_version : Option ValuePair → Option Version
last_version o = option_map version_in o
