-- Which replies list something.
use Rattle.sl_trace.specs.declared.reply.Reply.TheVariants.{Hosts, Sessions}
use Rattle.sl_trace.specs.declared.reply.Reply.{Reply}
use Rattle.std.specs.Prelude.{Bool, false, true}

-- The reply is a list of ids or of sessions.
abbrev pub has_list : Reply → Bool
has_list (Hosts states) = true
has_list (Sessions sessions) = true
has_list reply = false
