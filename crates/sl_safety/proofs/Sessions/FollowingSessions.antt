-- The sessions of a host's blocks on a resource follow one another: they are joined sessions of one lockspace and one id, so of two one is
-- over where the other joins, and nothing lands of one that is over.
use Rattle.sl_ballot_law.specs.History.{Owner as Holder}
use Rattle.sl_id_safety.proofs.IdInterface.{lockspaces_are_areas}
use Rattle.sl_run.specs.LawfulArea.{is_area_work}
use Rattle.sl_safety.proofs.Resources.Calls.{IsWork, sent_there}
use Rattle.sl_safety.proofs.Resources.StepsNameCalls.{block_works, worker_joined}
use Rattle.sl_safety.specs.Resources.Histories.{is_host}
use Rattle.sl_safety.specs.Resources.Orders.{BlockSent, Follows, LandsBefore}
use Rattle.sl_safety.specs.Resources.SentCalls.{Sent, holder_of, sender_of}
use Rattle.sl_run.specs.Runs.{Happening}
use Rattle.sl_run.specs.Safety.{Found, LawfulRun, SessionId, is_course_of, world_at}
use Rattle.sl_run.specs.Worlds.{Program, World}
use Rattle.sl_run.specs.declared.header.Header.{Header}
use Rattle.sl_run.specs.declared.header.ResourceLine.{ResourceLine}
use Rattle.sl_safety.proofs.Sessions.SessionsFollow.{IsOverWhenJoins, Sequel, sequel}
use Rattle.sl_safety.proofs.Sessions.NamesAreApart.{IsMember, joined_are_hosts, member_name, member_of}
use Rattle.sl_safety.proofs.Sessions.OverLandsNothing.{over_lands_not}
use Rattle.sl_safety.specs.Sessions.SessionsFollow.{SessionsFollow}
use Rattle.sl_trace.specs.Sessions.{is_free_purpose}
use Rattle.sl_trace.specs.declared.effects.Purpose.TheVariants.{Leaving}
use Rattle.sl_trace.specs.declared.effects.Purpose.{Purpose}
use Rattle.sl_words.proofs.CaseLaws.{false_is_true}
use Rattle.std.proofs.Common.{ap, inl, inr, refl, subst, sym, ◌∙◌}
use Rattle.std.proofs.lemmas.Bool.{and_from, eq-eqb}
use Rattle.std.specs.Prelude.{Contains, List, false, true, ℕ, ◌==◌, ◌≡◌}
use Rattle.sl_safety.proofs.GivenReads.LandingOrder.{is_landed_at}

-- ---- sessions of a host

-- A joined session of the resource's lockspace with the host's id.
pub record IsOfHost (w : World) (r : ResourceLine) (k : ℕ) (i : SessionId) : Type 0 where
  pub found : Found
  pub member : IsMember w r.lockspace i found
  pub id : found.session.id ≡ k

pub worker_of_host : (p : Program) (h : Header) (xs : List Happening) → (r : ResourceLine) (k : ℕ) (x : Sent) → IsWork (world_at p h xs) r x
    → (holder_of (world_at p h xs) (sender_of x)).id ≡ k → IsOfHost (world_at p h xs) r k (sender_of x)
worker_of_host p h xs r k x work host =
    let w : World = world_at p h xs in
    let m = member_of w r.lockspace (sender_of x) (worker_joined p h xs r x work) in
    record { found = m.0; member = m.1; id = ap (λ (o : Holder). o.id) (sym (member_name w (sender_of x) m.0 m.1.its)) ∙ host }

-- It is one.
pub worker_is_host : (p : Program) (h : Header) (xs : List Happening) → LawfulRun p h xs → (r : ResourceLine) → Contains h.resources r → (k : ℕ) (x : Sent) → IsWork (world_at p h xs) r x
    → (holder_of (world_at p h xs) (sender_of x)).id ≡ k → is_host (world_at p h xs) k ≡ true
worker_is_host p h xs run r there k x work host =
    subst (λ n. is_host (world_at p h xs) n ≡ true) host (joined_are_hosts p h xs r run there (sender_of x) (worker_joined p h xs r x work))

-- Of two of them one is over where the other joins.
pub host_sequel : (p : Program) (h : Header) (xs : List Happening) → LawfulRun p h xs → (r : ResourceLine) (k : ℕ) (i j : SessionId) → IsOfHost (world_at p h xs) r k i
    → IsOfHost (world_at p h xs) r k j → Sequel p h xs i j
host_sequel p h xs run r k i j a b =
    sequel p h xs run i j a.found b.found a.member.its b.member.its a.member.joined b.member.joined
    (lockspaces_are_areas p h xs run i j a.found b.found a.member.its b.member.its a.member.joined b.member.joined (a.member.lockspace_is ∙ sym b.member.lockspace_is) (a.id ∙ sym b.id))
    (lockspaces_are_areas p h xs run j i b.found a.found b.member.its a.member.its b.member.joined a.member.joined (b.member.lockspace_is ∙ sym a.member.lockspace_is) (b.id ∙ sym a.id))

-- ---- nothing lands of one that is over

not_free : (q : Purpose) → is_area_work q ≡ true → is_free_purpose q ≡ false
not_free (Leaving j) h = absurd (false_is_true h)
not_free q h = refl

pub sent_own : (i : SessionId) (x : Sent) → sender_of x ≡ i → is_course_of i x.course ≡ true
sent_own i x mine =
    subst (λ j. is_course_of j x.course ≡ true) mine
    (and_from (x.course.daemon == x.course.daemon) (x.course.call.session == x.course.call.session) (eq-eqb x.course.daemon x.course.daemon refl)
    (eq-eqb x.course.call.session x.course.call.session refl))

lands_before : (p : Program) (h : Header) (xs : List Happening) → LawfulRun p h xs → (r : ResourceLine) → Contains h.resources r → (k : ℕ) → is_host (world_at p h xs) k ≡ true
    → (i j : SessionId) → IsOverWhenJoins p h xs i j → LandsBefore (world_at p h xs) r k i j
lands_before p h xs run r there k host i j over x l at mine f n its joins =
    let w : World = world_at p h xs in
    let c = sent_there w x at.sent in
    let work = (is_landed_at p h xs run r there k host x l at).work in
    over_lands_not p h xs run i n (over f its n joins) l at.landed x.machine c.machine x.course c.at c.has at.writer (ap (λ (y : SessionId). y.machine) mine) (sent_own i x mine)
    (not_free x.course.call.purpose work.area)

-- ---- the law

block_of_host : (p : Program) (h : Header) (xs : List Happening) → LawfulRun p h xs → (r : ResourceLine) → Contains h.resources r → (k : ℕ) (x : Sent) → BlockSent (world_at p h xs) r k x
    → IsWork (world_at p h xs) r x
block_of_host p h xs run r there k x b = block_works p h xs run r there x b.sent b.on b.block

follows_by : (p : Program) (h : Header) (xs : List Happening) → LawfulRun p h xs → (r : ResourceLine) → Contains h.resources r → (k : ℕ) → is_host (world_at p h xs) k ≡ true
    → (i j : SessionId) → Sequel p h xs i j → Follows (world_at p h xs) r k i j
follows_by p h xs run r there k host i j (inl same) = inl same
follows_by p h xs run r there k host i j (inr (inl over)) = inr (inl (lands_before p h xs run r there k host i j over))
follows_by p h xs run r there k host i j (inr (inr over)) = inr (inr (lands_before p h xs run r there k host j i over))

-- The sessions of a host follow one another.
pub sessions_follow : SessionsFollow
sessions_follow p h xs r run there k x y a b =
    let one = block_of_host p h xs run r there k x a in
    let two = block_of_host p h xs run r there k y b in
    follows_by p h xs run r there k (worker_is_host p h xs run r there k x one a.host) (sender_of x) (sender_of y)
    (host_sequel p h xs run r k (sender_of x) (sender_of y) (worker_of_host p h xs r k x one a.host) (worker_of_host p h xs r k y two b.host))
