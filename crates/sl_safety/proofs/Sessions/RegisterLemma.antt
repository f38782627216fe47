-- The register lemma. What a read was given is no older than what was answered ok before. Where it was given nothing of its own host the
-- block counts that the reader last submitted; a block of its host that was answered ok before is its own, or of a session that was over
-- where the reader joined: one that finds the reader over joined after the read.
use Rattle.sl_ballot_law.specs.Disk.{Wrote}
use Rattle.sl_id_safety.proofs.OverIsQuiet.{over_are_silent}
use Rattle.sl_id_safety.specs.State.IdStates.{own_courses}
use Rattle.sl_trace.specs.Leases.{is_on}
use Rattle.sl_words.proofs.Lists.{kept}
use Rattle.sl_safety.proofs.Resources.Calls.{IsWork, found_of, owner_found}
use Rattle.sl_safety.proofs.Resources.StepsNameCalls.{block_works, read_works}
use Rattle.sl_safety.proofs.Resources.WorkersHaveJoined.{joined_then}
use Rattle.sl_safety.proofs.Resources.NewestCalls.{newest}
use Rattle.sl_safety.proofs.GivenReads.ReadsAreGiven.{reads_are_given}
use Rattle.sl_safety.specs.Resources.Reads.{ReadsGive, shown_given, shows_given}
use Rattle.sl_safety.proofs.Resources.OwnBlocks.{same_is}
use Rattle.sl_safety.proofs.Resources.AtSteps.{IsBlockAt, IsReadAt, block_at, found_before, ok_is, read_found}
use Rattle.sl_safety.proofs.Resources.CallParts.{standing}
use Rattle.sl_safety.proofs.Resources.StepsNameEntries.{call_timed}
use Rattle.sl_safety.specs.Resources.Histories.{is_host, own_before}
use Rattle.sl_safety.specs.Resources.Orders.{BlockSent}
use Rattle.sl_safety.specs.Resources.HistoryLaws.{history_of_line, spot_of_line}
use Rattle.sl_safety.specs.Resources.SentCalls.{Sent, all_sent, holder_of, is_block_before, nobody, same_session, sender_of, step_of, writes_block}
use Rattle.sl_run.specs.Runs.{Happening}
use Rattle.sl_run.specs.Safety.{Found, IsSession, LawfulRun, SessionId, is_course_of, world_at}
use Rattle.sl_run.specs.Worlds.{Program, Stamp, World}
use Rattle.sl_run.specs.declared.header.Header.{Header}
use Rattle.sl_run.specs.declared.header.ResourceLine.{ResourceLine}
use Rattle.sl_safety.proofs.Sessions.SessionsFollow.{IsOverBy, IsOverWhenJoins, Sequel}
use Rattle.sl_safety.proofs.Sessions.FollowingSessions.{host_sequel, sent_own, sessions_follow, worker_is_host, worker_of_host}
use Rattle.sl_safety.specs.Sessions.SessionLaws.{HistoriesShowNewest}
use Rattle.sl_words.proofs.CaseLaws.{true_is_false}
use Rattle.sl_words.proofs.WordLaws.{and_true}
use Rattle.std.proofs.Common.{ap, arith, inl, inr, refl, subst, sym, ◌∙◌}
use Rattle.std.proofs.lemmas.Bool.{and_from, eq-eqb, eqb-true}
use Rattle.std.proofs.lemmas.Bool.Decides.{nat_tests}
use Rattle.std.specs.Option.{option_map_or}
use Rattle.std.specs.Prelude.{Contains, List, None, Option, Some, find, is_some, nat_lt, true, ℕ, ◌&&◌, ◌+◌, ◌<◌, ◌==◌, ◌≡◌, ◌≤◌}
use Rattle.sl_safety.proofs.Resources.Looks.{began_before}

-- ---- a session that is over sends nothing

no_later : (s w n : ℕ) → s < w → w ≤ n + 1 → s ≤ n
no_later s w n p q = omega (arith, p, q)

-- What it sent was sent before.
over_sends_not : (p : Program) (h : Header) (xs : List Happening) → LawfulRun p h xs → (r : ResourceLine) (n : ℕ) (x : Sent) → IsWork (world_at p h xs) r x
    → IsOverBy p h xs (sender_of x) n → step_of x ≤ n
over_sends_not p h xs run r n x work o =
    let w : World = world_at p h xs in
    let g : Found = found_of work.owned in
    let own : Contains (own_courses (sender_of x) g.machine) x.course =
    kept (is_course_of (sender_of x)) g.machine.calls x.course (sent_own (sender_of x) x refl) work.owned.there.has in
    no_later (step_of x) (world_at p h o.now).step n
    (over_are_silent p h o.now o.rest (subst (λ ys. LawfulRun p h ys) o.whole run) (sender_of x) o.found g o.its
    (subst (λ ys. IsSession (world_at p h ys) (sender_of x) g) o.whole (owner_found w x work.owned)) o.joined o.over x.course own) o.early

through : (a b c : ℕ) → a ≤ b → b ≤ c → a ≤ c
through a b c p q = omega (arith, p, q)

-- Where the first is over when the second joins, it sent all before the second.
sends_before : (p : Program) (h : Header) (xs : List Happening) → LawfulRun p h xs → (r : ResourceLine) (x y : Sent) → IsWork (world_at p h xs) r x → IsWork (world_at p h xs) r y
    → IsOverWhenJoins p h xs (sender_of x) (sender_of y) → step_of x ≤ step_of y
sends_before p h xs run r x y one two over =
    let w : World = world_at p h xs in
    let j = joined_then p h xs run r y two in
    through (step_of x) j.step (step_of y) (over_sends_not p h xs run r j.step x one (over (found_of two.owned) (owner_found w y two.owned) j.step j.joined)) j.early

-- ---- the reader's own block

less_is : (m n : ℕ) → m < n → nat_lt m n ≡ true
less_is m n h = grind (arith, nat_tests)

before_sender : (w : World) (r : ResourceLine) (i : SessionId) (step : ℕ) (x : Sent) → is_block_before w (spot_of_line r) i step x ≡ true → i ≡ sender_of x
before_sender w r i step x is =
    same_is i (sender_of x) (and_true (nat_lt (step_of x) step && is_on w.layout (spot_of_line r) x.course.call && writes_block x.course) (same_session i (sender_of x)) is).1

on_machine : (w : World) (r : ResourceLine) (i : SessionId) (step : ℕ) (x : Sent) → is_block_before w (spot_of_line r) i step x ≡ true → x.machine ≡ i.machine
on_machine w r i step x is = ap (λ (j : SessionId). j.machine) (sym (before_sender w r i step x is))

-- A block that the session sent before isn't later than the last.
last_is_newest : (p : Program) (h : Header) (xs : List Happening) → LawfulRun p h xs → (r : ResourceLine) (i : SessionId) (n : ℕ) (x y : Sent) → Contains (all_sent (world_at p h xs)) x
    → is_block_before (world_at p h xs) (spot_of_line r) i n x ≡ true → find (is_block_before (world_at p h xs) (spot_of_line r) i n) (all_sent (world_at p h xs)) ≡ Some y → step_of x ≤ step_of y
last_is_newest p h xs run r i n x y sent is found =
    let w : World = world_at p h xs in
    let s = standing p h xs run x sent in
    newest (is_block_before w (spot_of_line r) i n) w x.machine w.step s.machine y x.course s.at s.falls
    (λ z passes. on_machine w r i n z passes ∙ sym (on_machine w r i n x is)) s.inside is found

before_is : (w : World) (r : ResourceLine) (k n : ℕ) (x : Sent) → BlockSent w r k x → step_of x < n → is_block_before w (spot_of_line r) (sender_of x) n x ≡ true
before_is w r k n x b early =
    and_from _ _ (and_from _ _ (and_from _ _ (less_is (step_of x) n early) b.on) b.block)
    (and_from _ _ (and_from _ _ (eq-eqb x.machine x.machine refl) (eq-eqb x.course.daemon x.course.daemon refl))
    (eq-eqb x.course.call.session x.course.call.session refl))

never_after : (z x s : ℕ) → z ≤ x → x < s → s ≤ z → ⊥
never_after z x s p q t = omega (arith, p, q, t)

-- A block of the reader's host that was answered ok before the read isn't later than the reader's last own block.
own_is_newest : (p : Program) (h : Header) (xs : List Happening) → LawfulRun p h xs → (r : ResourceLine) → Contains h.resources r → (k : ℕ) (x y z : Sent) → BlockSent (world_at p h xs) r k x
    → IsWork (world_at p h xs) r x → IsWork (world_at p h xs) r z → (s : Stamp) → step_of x < s.step → s.step ≤ step_of z
    → own_before (world_at p h xs) (spot_of_line r) z ≡ Some y → Sequel p h xs (sender_of x) (sender_of z) → step_of x ≤ step_of y
own_is_newest p h xs run r there k x y z b one two s told late last (inl same) =
    let w : World = world_at p h xs in
    let early : step_of x < step_of z = omega (arith, told, late) in
    last_is_newest p h xs run r (sender_of z) (step_of z) x y b.sent (subst (λ i. is_block_before w (spot_of_line r) i (step_of z) x ≡ true) same (before_is w r k (step_of z) x b early)) last
own_is_newest p h xs run r there k x y z b one two s told late last (inr (inl over)) =
    let w : World = world_at p h xs in
    let f = found_before w r (sender_of z) (step_of z) y last in
    let own = block_works p h xs run r there y f.sent f.on f.block in
    sends_before p h xs run r x y one own (subst (λ i. IsOverWhenJoins p h xs (sender_of x) i) f.sender over)
own_is_newest p h xs run r there k x y z b one two s told late last (inr (inr over)) =
    let before = sends_before p h xs run r z x two one over in
    absurd (never_after (step_of z) (step_of x) s.step before told late)

-- ---- what a read shows

-- A block that was answered ok when a read began, and that read.
record Earlier (p : Program) (h : Header) (xs : List Happening) (r : ResourceLine) (k began : ℕ) (x z : Sent) : Type 0 where
  block : BlockSent (world_at p h xs) r k x
  done : x.course.done ≡ true
  stamp : Stamp
  answered : x.course.answered ≡ Some stamp
  works : IsWork (world_at p h xs) r z
  late : stamp.step ≤ step_of z
  early : stamp.step ≤ began

own_by : (p : Program) (h : Header) (xs : List Happening) → LawfulRun p h xs → (r : ResourceLine) → Contains h.resources r → (k began : ℕ) → (x z : Sent) → Earlier p h xs r k began x z
    → IsWork (world_at p h xs) r x → (holder_of (world_at p h xs) (sender_of z)).id ≡ k → (o : Option Sent) → own_before (world_at p h xs) (spot_of_line r) z ≡ o → is_some o ≡ true
    → step_of x ≤ option_map_or step_of o 0
own_by p h xs run r there k began x z e work host None last is = absurd (true_is_false (sym is))
own_by p h xs run r there k began x z e work host (Some y) last is =
    own_is_newest p h xs run r there k x y z e.block work e.works e.stamp
    ((call_timed p h xs run x.machine work.owned.there.machine x.course work.owned.there.at work.owned.there.has).answered e.stamp e.answered) e.late last
    (host_sequel p h xs run r k (sender_of x) (sender_of z) (worker_of_host p h xs r k x work e.block.host) (worker_of_host p h xs r k z e.works host))

-- By what the read was given.
given_at_least : (p : Program) (h : Header) (xs : List Happening) → LawfulRun p h xs → (r : ResourceLine) → Contains h.resources r → (g : ReadsGive p h xs r) → (n k : ℕ)
    → is_host (world_at p h xs) k ≡ true → (x : Sent) (z : IsReadAt (world_at p h xs) r n) → Earlier p h xs r k n x z.sent → IsWork (world_at p h xs) r x → (o : Option (Option Sent))
    → g.given n k ≡ o → shows_given (world_at p h xs) r k z.sent o ≡ true → step_of x ≤ shown_given (world_at p h xs) r z.sent o
given_at_least p h xs run r there g n k host x z e work (Some from) is shows =
    g.newest n k (ap (λ o. is_some o) z.found) host from is x e.block e.done e.stamp e.answered e.early
    (λ y b. sessions_follow p h xs r run there k x y e.block b)
given_at_least p h xs run r there g n k host x z e work None is shows =
    let w : World = world_at p h xs in
    let both = and_true ((holder_of w (sender_of z.sent)).id == k) (is_some (own_before w (spot_of_line r) z.sent)) shows in
    own_by p h xs run r there k n x z.sent e work (eqb-true (holder_of w (sender_of z.sent)).id k both.0) (own_before w (spot_of_line r) z.sent) refl both.1

-- ---- the law

block_is : (p : Program) (h : Header) (xs : List Happening) (r : ResourceLine) (k e : ℕ) (b : IsBlockAt (world_at p h xs) r e) → Wrote (history_of_line p h xs r) k e
    → BlockSent (world_at p h xs) r k b.sent
block_is p h xs r k e b wrote =
    let w : World = world_at p h xs in
    record {
      sent = b.is.sent;
      on = b.is.on;
      block = b.block;
      host = ap (λ (o : Option Sent). (option_map_or (λ (x : Sent). holder_of w (sender_of x)) o nobody).id) (sym b.found) ∙ wrote.host;
    }

-- A read that is submitted after a block was answered ok shows, of its host, that block or one submitted later.
pub show_newest : HistoriesShowNewest
show_newest p h xs r run there n k e a reads shows wrote ok late =
    let w : World = world_at p h xs in
    let z : IsReadAt w r n = read_found w r n reads in
    let x : IsBlockAt w r e = block_at w r e wrote.is in
    let told = ok_is w r e a x ok in
    let block : BlockSent w r k x.sent = block_is p h xs r k e x wrote in
    let earlier : Earlier p h xs r k n x.sent z.sent =
    record {
      block = block;
      done = told.0;
      stamp = told.1;
      answered = told.2;
      works = read_works p h xs run r z.sent z.is.sent z.is.on z.counted;
      late = through told.1.step n (step_of z.sent) (subst (λ m. m ≤ n) (sym told.3) late)
          (subst (λ m. m ≤ step_of z.sent) z.is.began (began_before p h xs run (spot_of_line r) z.sent));
      early = subst (λ m. m ≤ n) (sym told.3) late;
    } in
    let work = block_works p h xs run r there x.sent x.is.sent x.is.on x.block in
    let host : is_host w k ≡ true = worker_is_host p h xs run r there k x.sent work block.host in
    let g = reads_are_given p h xs r run there in
    let whole = given_at_least p h xs run r there g n k host x.sent z earlier work (g.given n k) refl (sym (g.shows n k host z.sent z.found) ∙ shows) in
    subst (λ m. m ≤ (history_of_line p h xs r).shown n k) x.is.step_is (subst (λ m. step_of x.sent ≤ m) (sym (g.shown n k host z.sent z.found)) whole)
