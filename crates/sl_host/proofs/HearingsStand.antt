-- Exits, starts and a step's beginning, as books and members take them.
use Rattle.sl_host_state.specs.HeardInputs.{begun, counted, member_begun, with_renewing}
use Rattle.sl_host_state.specs.KeptState.{HostState, MemberState}
use Rattle.sl_member.specs.HostMembers.{begun_by, late_by}
use Rattle.sl_trace.specs.declared.session.Renewing.{Renewing}
use Rattle.sl_trace.specs.declared.command.Command.{Command}
use Rattle.sl_host.specs.Books.{BooksState, books_counting, host_of}
use Rattle.std.proofs.Common.{ap, arith, refl, ◌∙◌}
use Rattle.std.specs.List.{list_any}
use Rattle.std.specs.Prelude.{List, Result, Some, [], cond, map, min, ℕ, ◌+◌, ◌-◌, ◌∷◌, ◌≡◌}

one_begun : (h : HostState) (now : ℕ) (m : MemberState) → begun_by h.config.timing now h.entries m ≡ member_begun (counted now h) m
one_begun h now m =
    ap (λ (at : ℕ). let r : Renewing = m.renewing in
    cond (late_by h.config.timing now m) (with_renewing (record r { recovery = Some (record { at = at; reading = now; kills_from = at }) }) m) m)
    (let e : h.entries ≡ h.entries + 1 - 1 = omega arith in e)

all_begun : (h : HostState) (now : ℕ) (ms : List MemberState) → map (begun_by h.config.timing now h.entries) ms ≡ map (member_begun (counted now h)) ms
all_begun h now [] = refl
all_begun h now (m ∷ ms) = ap (λ k. k ∷ map (begun_by h.config.timing now h.entries) ms) (one_begun h now m) ∙ ap (λ ks. member_begun (counted now h) m ∷ ks) (all_begun h now ms)

-- A step begins: where a recovery does, its kills may come from then on.
pub begun_follows : (read : List ℕ → Result Command ℕ) (ms ns : List MemberState) (b : BooksState) (now q : ℕ) → ns ≡ map (begun_by b.config.timing now b.entries) ms
    → q ≡ cond (list_any (late_by b.config.timing now) ms) (min b.quiet_until (now + b.config.grace)) b.quiet_until
    → host_of read ns (record (books_counting now b) { quiet_until = q }) ≡ begun now (host_of read ms b)
begun_follows read ms ns b now q made low =
    (λ i. host_of read (made i) (record (books_counting now b) { quiet_until = low i }))
    ∙ ap (λ zs. host_of read zs (record (books_counting now b) { quiet_until = cond (list_any (late_by b.config.timing now) ms) (min b.quiet_until (now + b.config.grace)) b.quiet_until }))
    (all_begun (host_of read ms b) now ms)
