-- Requests, by what the read of leader and request gave.
use Rattle.sl_area.specs.AreaSizes.{Layout}
use Rattle.sl_trace.specs.Leases.{is_leader_of}
use Rattle.sl_request.specs.Requests.{check_request}
use Rattle.sl_sector.specs.declared.sector.Leader.{Leader}
use Rattle.sl_sector.specs.declared.sector.Request.{Request}
use Rattle.sl_trace.specs.declared.command.ResourceArg.{ResourceArg}
use Rattle.sl_trace.specs.declared.reply.Reply.TheVariants.{RequestOld, TornLeader, WrongArea}
use Rattle.sl_trace.specs.declared.reply.Reply.{Reply}
use Rattle.sl_words.specs.Words.{choose}
use Rattle.std.specs.Prelude.{List, None, Option, Some, false, not, option_and_then, true, ℕ, ◌==◌}

-- By the held lver and the request that stands, if one is spelled: it asks for too little.
abbrev pub old_refusal : ℕ → ℕ → ℕ → Option Request → Option Reply
old_refusal held asked force None = choose (not (asked == 0)) (RequestOld held None)
old_refusal held asked force (Some q) = choose (not (check_request held q.lver asked force)) (RequestOld held (Some q.lver))

-- What a request is refused for, if it is: `request_refusal` of the bytes that gave these.
abbrev pub refusal_by : Layout → List ℕ → ResourceArg → ℕ → ℕ → Option Leader → Option Request → Option Reply
refusal_by g lockspace r asked force None q = Some TornLeader
refusal_by g lockspace r asked force (Some l) q =
    elim (is_leader_of g lockspace r.name l) [ false ↦ Some (WrongArea l.lockspace l.resource l.num_hosts) | true ↦ old_refusal l.lver asked force q ]

-- The owner of a leader that is held.
abbrev pub owner_by : Option Leader → Option ℕ
owner_by l = option_and_then (λ d. choose d.held d.owner) l
