-- What is asked of a log's writes: they come one after another, land between their submission and their answer, and those of a session
-- that is over do nothing more.
use Rattle.sl_safety.proofs.Resources.Calls.{IsWork}
use Rattle.sl_safety.proofs.Resources.DoneIsAnswered.{made_since}
use Rattle.sl_safety.proofs.Sessions.SessionsFollow.{IsOverBy}
use Rattle.sl_safety.proofs.Sessions.SessionsInOrder.{histories_are_in_order, over_at}
use Rattle.sl_safety.proofs.Sessions.OrderedFronts.{FrontAt, front_at}
use Rattle.sl_safety.proofs.Sessions.OrderedWork.{own_write, worker_named}
use Rattle.sl_safety.proofs.Sessions.OverLandsNothing.{over_lands_not}
use Rattle.sl_safety.specs.Resources.HistoryLaws.{history_of_line}
use Rattle.sl_safety.specs.Resources.SentCalls.{Sent, holder_of, sender_of, session_of_holder, step_of}
use Rattle.sl_safety.proofs.Pairs.OwnLandings.{done_landed}
use Rattle.sl_safety.proofs.Pairs.Orders.{AnsweredBy, answered_by, answered_first, joins_self, joins_who, one_join, over_when, silent_then, written_in}
use Rattle.sl_safety.proofs.Pairs.SentBlocks.{PairSent, joined_for, pair_found, session_is}
use Rattle.sl_safety.proofs.Pairs.LogEvents.{answered_is, answers_at, done_is, is_write, landed_is, lands_at, whole_is}
use Rattle.sl_safety.specs.Pairs.PairLogs.{join_of, pair_log}
use Rattle.sl_run.specs.Runs.{Happening}
use Rattle.sl_run.specs.Safety.{LawfulRun, is_course_of, world_at}
use Rattle.sl_run.specs.Worlds.{Program, Stamp, World}
use Rattle.sl_run.specs.declared.header.Header.{Header}
use Rattle.sl_run.specs.declared.header.ResourceLine.{ResourceLine}
use Rattle.sl_words.proofs.CaseLaws.{one_value}
use Rattle.sl_words.proofs.OrderLaws.{less_or_same}
use Rattle.std.proofs.Common.{ap, arith, inl, inr, refl, subst, sym, ◌∙◌}
use Rattle.std.proofs.lemmas.Bool.{cases_lt, eq-eqb}
use Rattle.std.specs.Prelude.{Bool, Contains, List, None, Option, Some, false, option_and_then, option_map, true, ℕ, ◌&&◌, ◌<◌, ◌==◌, ◌≡◌, ◌≤◌, ◌⊎◌}

-- What all of these are said of.
pub record IsPair (p : Program) (h : Header) (xs : List Happening) (r : ResourceLine) : Type 0 where
  pub run : LawfulRun p h xs
  pub there : Contains h.resources r

-- ---- a write and its session

pub positive : (p : Program) (h : Header) (xs : List Happening) (r : ResourceLine) → IsPair p h xs r → (k e : ℕ) → (pair_log (world_at p h xs) r k).writes e ≡ true → 0 < e
positive p h xs r i k e is =
    let x = pair_found p h xs i.run r i.there k e is in
    subst (λ n. 0 < n) x.is.step_is (made_since p h xs i.run x.sent x.work.owned)

pub joined : (p : Program) (h : Header) (xs : List Happening) (r : ResourceLine) → IsPair p h xs r → (k e : ℕ) → (pair_log (world_at p h xs) r k).writes e ≡ true
    → (pair_log (world_at p h xs) r k).joins ((pair_log (world_at p h xs) r k).session e) ≡ true
joined p h xs r i k e is =
    let x = pair_found p h xs i.run r i.there k e is in
    ap (pair_log (world_at p h xs) r k).joins (session_is p h xs r k e x) ∙ joins_self p h xs i.run r i.there k x.sent x.work x.host

low_by : (a b c d : ℕ) → a ≡ b → b ≤ c → c ≡ d → a ≤ d
low_by a b c d e h f = omega (arith, e, h, f)

pub after_join : (p : Program) (h : Header) (xs : List Happening) (r : ResourceLine) → IsPair p h xs r → (k e : ℕ) → (pair_log (world_at p h xs) r k).writes e ≡ true
    → (pair_log (world_at p h xs) r k).session e ≤ e
after_join p h xs r i k e is =
    let x = pair_found p h xs i.run r i.there k e is in
    let j = joined_for p h xs i.run r i.there x.sent x.work in
    low_by ((pair_log (world_at p h xs) r k).session e) j.step (step_of x.sent) e (session_is p h xs r k e x ∙ j.join) j.low x.is.step_is

-- ---- one after another

up_by : (a b n m : ℕ) → a ≡ n → b ≡ m → n < m → a < b
up_by a b n m p q h = omega (arith, p, q, h)

until : (a b n : ℕ) → a ≤ b → b ≡ n → a ≤ n
until a b n h e = omega (arith, h, e)

pub follows : (p : Program) (h : Header) (xs : List Happening) (r : ResourceLine) → IsPair p h xs r → (k e n : ℕ) → (pair_log (world_at p h xs) r k).writes e ≡ true
    → (pair_log (world_at p h xs) r k).writes n ≡ true → e < n
    → (((pair_log (world_at p h xs) r k).session e ≡ (pair_log (world_at p h xs) r k).session n)
    × ((a : ℕ) × ((pair_log (world_at p h xs) r k).answered e ≡ Some a) × (a ≤ n)))
    ⊎ ((pair_log (world_at p h xs) r k).session e < (pair_log (world_at p h xs) r k).session n)
follows p h xs r i k e n is other less =
    let x = pair_found p h xs i.run r i.there k e is in
    let z = pair_found p h xs i.run r i.there k n other in
    by x z (cases_lt (join_of (world_at p h xs) r (sender_of x.sent)) (join_of (world_at p h xs) r (sender_of z.sent)))
  where
    same : (x : PairSent p h xs r k e) (z : PairSent p h xs r k n) → join_of (world_at p h xs) r (sender_of x.sent) ≡ join_of (world_at p h xs) r (sender_of z.sent)
        → ((pair_log (world_at p h xs) r k).session e ≡ (pair_log (world_at p h xs) r k).session n)
        × ((a : ℕ) × ((pair_log (world_at p h xs) r k).answered e ≡ Some a) × (a ≤ n))
    same x z joins =
        let one = one_join p h xs i.run r i.there x.sent z.sent x.work z.work (x.host ∙ sym z.host) joins in
        let first : AnsweredBy x.sent (step_of z.sent) =
        answered_first p h xs i.run r i.there x.sent z.sent x.work z.work one x.is.sent z.is.sent (up_by (step_of x.sent) (step_of z.sent) e n x.is.step_is z.is.step_is less) in (
          session_is p h xs r k e x ∙ joins ∙ sym (session_is p h xs r k n z),
          (first.stamp.step, answered_is p h xs r k e x first.stamp first.is, until first.stamp.step (step_of z.sent) n first.by z.is.step_is),
        )

    by : (x : PairSent p h xs r k e) (z : PairSent p h xs r k n)
        → (join_of (world_at p h xs) r (sender_of x.sent) < join_of (world_at p h xs) r (sender_of z.sent))
        ⊎ (join_of (world_at p h xs) r (sender_of z.sent) ≤ join_of (world_at p h xs) r (sender_of x.sent))
        → (((pair_log (world_at p h xs) r k).session e ≡ (pair_log (world_at p h xs) r k).session n)
        × ((a : ℕ) × ((pair_log (world_at p h xs) r k).answered e ≡ Some a) × (a ≤ n)))
        ⊎ ((pair_log (world_at p h xs) r k).session e < (pair_log (world_at p h xs) r k).session n)
    by x z (inl earlier) =
        inr (up_by ((pair_log (world_at p h xs) r k).session e) ((pair_log (world_at p h xs) r k).session n) (join_of (world_at p h xs) r (sender_of x.sent))
        (join_of (world_at p h xs) r (sender_of z.sent)) (session_is p h xs r k e x) (session_is p h xs r k n z) earlier)
    by x z (inr more) = elim (less_or_same (join_of (world_at p h xs) r (sender_of z.sent)) (join_of (world_at p h xs) r (sender_of x.sent)) more) [
      | inr equal ↦ inl (same x z (sym equal))
      | inl later ↦
          let j = joined_for p h xs i.run r i.there x.sent x.work in
          let before : step_of z.sent < j.step =
          silent_then p h xs i.run r i.there k n z (holder_of (world_at p h xs) (sender_of x.sent)) (sym x.host) j.step j.is
          (subst (λ (m : ℕ). join_of (world_at p h xs) r (sender_of z.sent) < m) j.join later) in
          let low = j.low in
          let a = x.is.step_is in
          let b = z.is.step_is in
          absurd (omega (arith, before, low, a, b, less))
    ]

-- ---- a session that is over

some_join : (a b c : ℕ) → a ≡ b → a < c → 0 < c
some_join a b c e h = omega (arith, h)

at_join : (a b c : ℕ) → a ≡ b → a < c → b < c
at_join a b c e h = omega (arith, e, h)

pub silent : (p : Program) (h : Header) (xs : List Happening) (r : ResourceLine) → IsPair p h xs r → (k e j : ℕ) → (pair_log (world_at p h xs) r k).writes e ≡ true
    → (pair_log (world_at p h xs) r k).joins j ≡ true → (pair_log (world_at p h xs) r k).session e < j → e < j
silent p h xs r i k e j is joins less =
    let x = pair_found p h xs i.run r i.there k e is in
    let who = joins_who (world_at p h xs) r k j joins (some_join _ _ j (session_is p h xs r k e x) less) in
    subst (λ n. n < j) x.is.step_is
    (silent_then p h xs i.run r i.there k e x who.name (sym who.id) j who.joined (at_join _ _ j (session_is p h xs r k e x) less))

-- It is over by then.
over_then : (p : Program) (h : Header) (xs : List Happening) (r : ResourceLine) → IsPair p h xs r → (k e j : ℕ) (x : PairSent p h xs r k e)
    → (pair_log (world_at p h xs) r k).joins j ≡ true → (pair_log (world_at p h xs) r k).session e < j
    → (history_of_line p h xs r).over (holder_of (world_at p h xs) (sender_of x.sent)) j ≡ true
over_then p h xs r i k e j x joins less =
    let who = joins_who (world_at p h xs) r k j joins (some_join _ _ j (session_is p h xs r k e x) less) in
    over_when p h xs i.run r i.there x.sent x.work who.name (x.host ∙ sym who.id) j who.joined (at_join _ _ j (session_is p h xs r k e x) less)

is_over_by : (p : Program) (h : Header) (xs : List Happening) (r : ResourceLine) → IsPair p h xs r → (x : Sent) → IsWork (world_at p h xs) r x → (j : ℕ)
    → (history_of_line p h xs r).over (holder_of (world_at p h xs) (sender_of x)) j ≡ true → IsOverBy p h xs (sender_of x) j
is_over_by p h xs r i x work j over =
    let w : World = world_at p h xs in
    let f : FrontAt p h xs j = front_at p h xs i.run j in
    let o = over_at p h xs r.lockspace (holder_of w (sender_of x)) j f over in
    let same : o.session ≡ sender_of x =
    one_value o.session (sender_of x) (session_of_holder w r.lockspace (holder_of w (sender_of x))) o.named.at (worker_named p h xs i.run r i.there x work) in
    subst (λ s. IsOverBy p h xs s j) same
    (record { now = f.now; rest = f.rest; whole = f.whole; found = o.found; its = o.its; joined = o.joined; over = o.over; early = f.begins })

pub gone : (p : Program) (h : Header) (xs : List Happening) (r : ResourceLine) → IsPair p h xs r → (k e j s : ℕ) → (pair_log (world_at p h xs) r k).writes e ≡ true
    → (pair_log (world_at p h xs) r k).joins j ≡ true → (pair_log (world_at p h xs) r k).session e < j → (pair_log (world_at p h xs) r k).landed e ≡ Some s → s < j
gone p h xs r i k e j s is joins less landed =
    let w : World = world_at p h xs in
    let x = pair_found p h xs i.run r i.there k e is in
    let l = lands_at p h xs i.run r k e x s landed in
    let o = is_over_by p h xs r i x.sent x.work j (over_then p h xs r i k e j x joins less) in
    let own = own_write w r x.sent x.work x.block in
    let mine : is_course_of (sender_of x.sent) x.sent.course ≡ true =
    both (x.sent.course.daemon == x.sent.course.daemon) (x.sent.course.call.session == x.sent.course.call.session) (eq-eqb x.sent.course.daemon x.sent.course.daemon refl)
    (eq-eqb x.sent.course.call.session x.sent.course.call.session refl) in
    subst (λ n. n < j) l.at
    (over_lands_not p h xs i.run (sender_of x.sent) j o l.landing l.is.inside x.sent.machine x.work.owned.there.machine x.sent.course x.work.owned.there.at x.work.owned.there.has
    l.is.writer refl mine own.other)
  where
    both : (a b : Bool) → a ≡ true → b ≡ true → (a && b) ≡ true
    both a b p q = ap (λ z. z && b) p ∙ q

pub settled : (p : Program) (h : Header) (xs : List Happening) (r : ResourceLine) → IsPair p h xs r → (k e j a : ℕ) → (pair_log (world_at p h xs) r k).writes e ≡ true
    → (pair_log (world_at p h xs) r k).joins j ≡ true → (pair_log (world_at p h xs) r k).session e < j → (pair_log (world_at p h xs) r k).done e ≡ true
    → (pair_log (world_at p h xs) r k).answered e ≡ Some a → a ≤ j
settled p h xs r i k e j a is joins less done told =
    let w : World = world_at p h xs in
    let x = pair_found p h xs i.run r i.there k e is in
    let t = answers_at p h xs r k e x a told in
    let k_in = written_in p h xs i.run r i.there k e x in
    let ok : (history_of_line p h xs r).ok (step_of x.sent) ≡ Some a =
    ap (option_and_then ok_of) k_in.at ∙ ok_by x.sent.course.done x.sent.course.answered (done_is p h xs r k e x done) t.stamp t.is ∙ ap (λ z. Some z) t.at in
    (histories_are_in_order p h xs r i.run i.there).settled (holder_of w (sender_of x.sent)) j (step_of x.sent) a (over_then p h xs r i k e j x joins less) k_in.writes k_in.writer ok
  where
    ok_of : Sent → Option ℕ
    ok_of y = elim y.course.done as (λ z. Option ℕ) [ true ↦ option_map (λ (s : Stamp). s.step) y.course.answered | false ↦ None ]

    ok_by : (b : Bool) (o : Option Stamp) → b ≡ true → (s : Stamp) → o ≡ Some s → elim b as (λ z. Option ℕ) [ true ↦ option_map (λ (u : Stamp). u.step) o | false ↦ None ] ≡ Some s.step
    ok_by b o done s told = ap (λ c. elim c as (λ z. Option ℕ) [ true ↦ option_map (λ (u : Stamp). u.step) o | false ↦ None ]) done ∙ ap (option_map (λ (u : Stamp). u.step)) told

-- ---- landings and answers

pub lands_later : (p : Program) (h : Header) (xs : List Happening) (r : ResourceLine) → IsPair p h xs r → (k e s : ℕ) → (pair_log (world_at p h xs) r k).writes e ≡ true
    → (pair_log (world_at p h xs) r k).landed e ≡ Some s → e < s
lands_later p h xs r i k e s is landed =
    let x = pair_found p h xs i.run r i.there k e is in
    let l = lands_at p h xs i.run r k e x s landed in
    let a = l.is.after in
    let b = x.is.step_is in
    let c = l.at in
    omega (arith, a, b, c)

pub answers_later : (p : Program) (h : Header) (xs : List Happening) (r : ResourceLine) → IsPair p h xs r → (k e a : ℕ) → (pair_log (world_at p h xs) r k).writes e ≡ true
    → (pair_log (world_at p h xs) r k).answered e ≡ Some a → e < a
answers_later p h xs r i k e a is told =
    let x = pair_found p h xs i.run r i.there k e is in
    let t = answers_at p h xs r k e x a told in
    let later : step_of x.sent < t.stamp.step = answered_by p h xs i.run x.sent x.work.owned t.stamp t.is in
    let b = x.is.step_is in
    let c = t.at in
    omega (arith, later, b, c)

pub lands_before : (p : Program) (h : Header) (xs : List Happening) (r : ResourceLine) → IsPair p h xs r → (k e s a : ℕ) → (pair_log (world_at p h xs) r k).writes e ≡ true
    → (pair_log (world_at p h xs) r k).landed e ≡ Some s → (pair_log (world_at p h xs) r k).answered e ≡ Some a → s < a
lands_before p h xs r i k e s a is landed told =
    let x = pair_found p h xs i.run r i.there k e is in
    let l = lands_at p h xs i.run r k e x s landed in
    let t = answers_at p h xs r k e x a told in
    let before : l.landing.step < t.stamp.step = l.is.before t.stamp t.is in
    let b = l.at in
    let c = t.at in
    omega (arith, before, b, c)

pub done_lands : (p : Program) (h : Header) (xs : List Happening) (r : ResourceLine) → IsPair p h xs r → (k e : ℕ) → (pair_log (world_at p h xs) r k).writes e ≡ true
    → (pair_log (world_at p h xs) r k).done e ≡ true → ((s : ℕ) × ((pair_log (world_at p h xs) r k).landed e ≡ Some s)) × ((pair_log (world_at p h xs) r k).whole e ≡ true)
done_lands p h xs r i k e is done =
    let x = pair_found p h xs i.run r i.there k e is in
    let d = done_landed p h xs i.run x.sent x.is.sent (is_write p h xs r k e x) (done_is p h xs r k e x done) in (
      (d.landing.step, landed_is p h xs r k e x.sent x.found d.landing d.found),
      whole_is p h xs r k e x.sent x.found d.landing d.found ∙ d.whole,
    )
