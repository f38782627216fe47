-- The run of a host's members.
use Rattle.sl_host_state.specs.KeptState.{Made}
use Rattle.sl_member.specs.Members.{RunOf}

-- By what the host is made of.
abbrev pub run_in : Made → RunOf
run_in c = record { timing = c.timing; sizes = c.sizes; host = c.name }
