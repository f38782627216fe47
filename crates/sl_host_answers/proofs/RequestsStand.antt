-- A request, by what was read of leader and request.
use Rattle.sl_area.specs.AreaSizes.{Layout}
use Rattle.sl_area.specs.AreaLayout.{leader_of, read_at}
use Rattle.sl_due.specs.DueRequests.{owner_read, request_refusal}
use Rattle.sl_host_answers.specs.Requests.{owner_by, refusal_by}
use Rattle.sl_host_law.specs.Answers.Requests.{requesting, writing_request}
use Rattle.sl_host_state.specs.KeptState.{HostState}
use Rattle.sl_host_state.specs.MadeEffects.{with_reply}
use Rattle.sl_trace.specs.Leases.{is_leader_of}
use Rattle.sl_request.specs.Requests.{check_request}
use Rattle.sl_sector.specs.SectorLayouts.{request_in}
use Rattle.sl_sector.specs.declared.sector.Leader.{Leader}
use Rattle.sl_sector.specs.declared.sector.Request.{Request}
use Rattle.sl_trace.specs.declared.session.Session.{Session}
use Rattle.sl_trace.specs.declared.command.Command.TheVariants.{Request as Requests}
use Rattle.sl_trace.specs.declared.command.ResourceArg.{ResourceArg}
use Rattle.sl_trace.specs.declared.reply.Reply.TheVariants.{RequestOld, TornLeader, WrongArea}
use Rattle.sl_trace.specs.declared.reply.Reply.{Reply}
use Rattle.sl_words.specs.Words.{choose}
use Rattle.std.proofs.Common.{ap, refl, ◌∙◌}
use Rattle.std.specs.Prelude.{List, None, Option, Some, false, not, true, ℕ, ◌==◌, ◌≡◌}

-- By leader and request it is refused for what the bytes that gave them refuse it for.
pub refused_for : (g : Layout) (lockspace : List ℕ) (r : ResourceArg) (asked force : ℕ) (bytes : List ℕ) → refusal_by g lockspace r asked force (leader_of g bytes) (request_in (read_at g bytes 1)) ≡ request_refusal g lockspace r asked force bytes
unfolding request_refusal
refused_for g lockspace r asked force bytes = by (leader_of g bytes) (request_in (read_at g bytes 1))
  where
    by : (d : Option Leader) (q : Option Request)
        → refusal_by g lockspace r asked force d q
        ≡ elim d as (λ z. Option Reply) [
          | None ↦ Some TornLeader
          | Some l ↦ elim (is_leader_of g lockspace r.name l) as (λ z. Option Reply) [
            | false ↦ Some (WrongArea l.lockspace l.resource l.num_hosts)
            | true ↦ elim q as (λ z. Option Reply) [
              | None ↦ choose (not (asked == 0)) (RequestOld l.lver None)
              | Some p ↦ choose (not (check_request l.lver p.lver asked force)) (RequestOld l.lver (Some p.lver))
            ]
          ]
        ]
    by None q = refl
    by (Some l) None = refl
    by (Some l) (Some p) = refl

-- What is done then.
abbrev done_by : Session → ℕ → Option ℕ → ResourceArg → ℕ → ℕ → HostState → Option Reply → HostState
done_by s j owner r asked force h o = elim o as (λ z. HostState) [ Some why ↦ with_reply j why h | None ↦ writing_request s j owner r asked force h ]

module _ (s : Session) (j : ℕ) (r : ResourceArg) (asked force : ℕ) (bytes : List ℕ) (h : HostState) (l : Option Leader) (q : Option Request) (led : l ≡ leader_of h.config.layout bytes)
    (asks : q ≡ request_in (read_at h.config.layout bytes 1)) where
  pub found : (o : Option Reply) → o ≡ refusal_by h.config.layout s.lockspace r asked force l q → o ≡ request_refusal h.config.layout s.lockspace r asked force bytes
  found o is = is ∙ (λ i. refusal_by h.config.layout s.lockspace r asked force (led i) (asks i)) ∙ refused_for h.config.layout s.lockspace r asked force bytes

  pub refuses : (why : Reply) → Some why ≡ refusal_by h.config.layout s.lockspace r asked force l q → with_reply j why h ≡ requesting s j bytes (Requests r asked force) h
  refuses why is = ap (done_by s j (owner_read h.config.layout bytes) r asked force h) (found (Some why) is)

  pub writes : None ≡ refusal_by h.config.layout s.lockspace r asked force l q → writing_request s j (owner_by l) r asked force h ≡ requesting s j bytes (Requests r asked force) h
  writes is =
      ap (λ d. writing_request s j (owner_by d) r asked force h) led ∙ ap (done_by s j (owner_read h.config.layout bytes) r asked force h) (found None is)
