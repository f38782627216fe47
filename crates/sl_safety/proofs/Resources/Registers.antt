-- A resource's blocks are registers: what the history shows of a host the read was given, or it is the block that the reader submitted last.
use Rattle.sl_ballot_law.specs.Disk.{Wrote}
use Rattle.sl_words.proofs.Numbers.{trans_lt}
use Rattle.sl_safety.proofs.GivenReads.ReadsAreGiven.{reads_are_given}
use Rattle.sl_safety.proofs.Resources.AtSteps.{IsReadAt, answer_of_read, block_at, found_before, not_at_first, read_found, wrote, since, answered}
use Rattle.sl_safety.specs.Resources.Histories.{counts_own, history_block, is_host, no_block, own_before}
use Rattle.sl_safety.specs.Resources.Orders.{BlockSent}
use Rattle.sl_safety.specs.Resources.HistoryLaws.{HistoriesAreRegisters, history_of_line, spot_of_line}
use Rattle.sl_safety.specs.Resources.Reads.{ReadsGive, shown_given, shows_given}
use Rattle.sl_safety.specs.Resources.SentCalls.{Sent, all_sent, block_of_course, holder_of, sender_of, sent_at, step_of, writes_block}
use Rattle.sl_run.specs.Runs.{Happening}
use Rattle.sl_run.specs.Safety.{LawfulRun, world_at}
use Rattle.sl_run.specs.Worlds.{Program, World}
use Rattle.sl_run.specs.declared.header.Header.{Header}
use Rattle.sl_run.specs.declared.header.ResourceLine.{ResourceLine}
use Rattle.sl_trace.specs.Leases.{is_on}
use Rattle.sl_words.proofs.WordLaws.{and_true}
use Rattle.std.proofs.Common.{ap, arith, inl, inr, refl, subst, sym, ◌∙◌}
use Rattle.std.proofs.lemmas.Bool.{eqb-true}
use Rattle.std.specs.Option.{option_map_or}
use Rattle.std.specs.Prelude.{Bool, Contains, List, None, Option, Some, false, is_some, option_and_then, true, ℕ, ◌<◌, ◌==◌, ◌≡◌, ◌⊎◌}

-- ---- what a read shows

-- What is shown of a host was there at first, or is a block that the host's session sent before the read was answered.
data Showing (w : World) (r : ResourceLine) (k step before : ℕ) : Type 0 where
  At_first : step ≡ 0 → Showing w r k step before
  Of_sent : (x : Sent) → Contains (all_sent w) x → is_on w.layout (spot_of_line r) x.course.call ≡ true → writes_block x.course ≡ true
      → (holder_of w (sender_of x)).id ≡ k → step ≡ step_of x → step_of x < before → Showing w r k step before

own_shows : (w : World) (r : ResourceLine) (k : ℕ) (x : Sent) (before : ℕ) → step_of x < before → counts_own w (spot_of_line r) x k ≡ true
    → (o : Option Sent) → own_before w (spot_of_line r) x ≡ o → Showing w r k (option_map_or step_of o 0) before
own_shows w r k x before late counts None is = At_first refl
own_shows w r k x before late counts (Some y) is =
    let b = found_before w r (sender_of x) (step_of x) y is in
    let host = eqb-true (holder_of w (sender_of x)).id k (and_true ((holder_of w (sender_of x)).id == k) (is_some (own_before w (spot_of_line r) x)) counts).0 in
    Of_sent y b.sent b.on b.block (ap (λ i. (holder_of w i).id) (sym b.sender) ∙ host) refl (trans_lt (step_of y) (step_of x) before b.early late)

-- By what it was given of the host.
given_shows : (p : Program) (h : Header) (xs : List Happening) (r : ResourceLine) (g : ReadsGive p h xs r) (n k : ℕ) (b : IsReadAt (world_at p h xs) r n)
    → step_of b.sent < (history_of_line p h xs r).answer n → is_host (world_at p h xs) k ≡ true → (o : Option (Option Sent)) → g.given n k ≡ o
    → shows_given (world_at p h xs) r k b.sent o ≡ true → Showing (world_at p h xs) r k (shown_given (world_at p h xs) r b.sent o) ((history_of_line p h xs r).answer n)
given_shows p h xs r g n k b late host None is counts =
    let w : World = world_at p h xs in
    own_shows w r k b.sent ((history_of_line p h xs r).answer n) late counts
    (own_before w (spot_of_line r) b.sent) refl
given_shows p h xs r g n k b late host (Some None) is counts = At_first refl
given_shows p h xs r g n k b late host (Some (Some x)) is counts =
    let reads : (history_of_line p h xs r).reads n ≡ true = ap (λ q. is_some q) b.found in
    let s : BlockSent (world_at p h xs) r k x = g.submitted n k reads host x is in
    Of_sent x s.sent s.on s.block s.host refl (g.earlier n k reads host x is)

-- What the history shows of a host.
shown_by_read : (p : Program) (h : Header) (xs : List Happening) (r : ResourceLine) (g : ReadsGive p h xs r) (n k : ℕ) (b : IsReadAt (world_at p h xs) r n)
    → step_of b.sent < (history_of_line p h xs r).answer n → (t : Bool) → is_host (world_at p h xs) k ≡ t → (history_of_line p h xs r).shows n k ≡ true
    → Showing (world_at p h xs) r k ((history_of_line p h xs r).shown n k) ((history_of_line p h xs r).answer n)
shown_by_read p h xs r g n k b late false host shows = At_first (g.others n k (ap (λ q. is_some q) b.found) host).1
shown_by_read p h xs r g n k b late true host shows =
    subst (λ m. Showing (world_at p h xs) r k m ((history_of_line p h xs r).answer n)) (sym (g.shown n k host b.sent b.found))
    (given_shows p h xs r g n k b late host (g.given n k) refl (sym (g.shows n k host b.sent b.found) ∙ shows))

-- ---- all of it

shown_wrote : (p : Program) (h : Header) (xs : List Happening) → LawfulRun p h xs → (r : ResourceLine) → Contains h.resources r → (k step before : ℕ)
    → Showing (world_at p h xs) r k step before → (step ≡ 0) ⊎ Wrote (history_of_line p h xs r) k step
shown_wrote p h xs run r there k step before (At_first none) = inl none
shown_wrote p h xs run r there k step before (Of_sent x sent on block host is early) =
    inr (subst (λ n. Wrote (history_of_line p h xs r) k n) (sym is) (wrote p h xs run r there k x sent on block host))

shown_early : (w : World) (r : ResourceLine) (k step before late : ℕ) → late < before → Showing w r k step before → step < before
shown_early w r k step before late some (At_first none) = omega (arith, some, none)
shown_early w r k step before late some (Of_sent x sent on block host is early) = omega (arith, is, early)

answered_after : (p : Program) (h : Header) (xs : List Happening) → LawfulRun p h xs → (r : ResourceLine) (n : ℕ) (b : IsReadAt (world_at p h xs) r n)
    → step_of b.sent < (history_of_line p h xs r).answer n
answered_after p h xs run r n b = let a = answer_of_read p h xs run r n b in subst (λ m. step_of b.sent < m) (sym a.step) a.after

forward : (p : Program) (h : Header) (xs : List Happening) → LawfulRun p h xs → (r : ResourceLine) (n : ℕ) → IsReadAt (world_at p h xs) r n → n < (history_of_line p h xs r).answer n
forward p h xs run r n b = let a = answer_of_read p h xs run r n b in subst (λ m. n < m) (sym a.step) a.later

pub are_registers : HistoriesAreRegisters
are_registers p h xs r run there differ =
    let w : World = world_at p h xs in
    let g = reads_are_given p h xs r run there in
    let none = not_at_first p h xs run r (sent_at w (spot_of_line r) writes_block 0) refl in
    let fresh = ap (λ (o : Option Sent). option_map_or history_block (option_and_then (λ (x : Sent). block_of_course x.course) o) no_block) none in
    record {
      zeros = (ap (λ b. b.lver) fresh, ap (λ b. b.mbal) fresh, ap (λ b. b.bal) fresh);
      since = λ e is. since p h xs run r e (block_at w r e is);
      answered = λ e a is ok. answered p h xs run r e a (block_at w r e is) ok;
      forward = λ e is. forward p h xs run r e (read_found w r e is);
      submitted = λ e k is shows.
          let b = read_found w r e is in
          shown_wrote p h xs run r there k _ _ (shown_by_read p h xs r g e k b (answered_after p h xs run r e b) (is_host w k) refl shows);
      earlier = λ e k is shows.
          let b = read_found w r e is in
          let late = answered_after p h xs run r e b in
          shown_early w r k _ _ (step_of b.sent) late (shown_by_read p h xs r g e k b late (is_host w k) refl shows);
    }
