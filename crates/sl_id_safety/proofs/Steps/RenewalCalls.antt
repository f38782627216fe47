-- The call of a renewal that an entry answers ok: it has landed at the session's sector, after it was submitted.
use Rattle.sl_area.specs.AreaLayout.{delta_offset}
use Rattle.sl_run_law.proofs.Course.CallsAreDistinct.{each_distinct}
use Rattle.sl_run_law.specs.Course.CallStamps.{AnswersAgree, IsAnsweredAs, IsCourseOf, stamp_in}
use Rattle.sl_run_law.proofs.Front.JoinedLists.{placed_at}
use Rattle.sl_id_safety.proofs.State.CallLaws.{is_at_own, is_place, own_call}
use Rattle.sl_id_safety.specs.State.IdStates.{index_of, is_left_by, is_sector_of, own_courses}
use Rattle.sl_id_safety.proofs.Steps.Frees.{trace_calls}
use Rattle.sl_id_safety.proofs.Steps.OwnCalls.{Through, knows}
use Rattle.sl_run_law.proofs.Landing.CallLists.{one_call}
use Rattle.sl_run_law.proofs.Landing.LandingLaws.{done_writes_have_landed, landings_are_written}
use Rattle.sl_run_law.proofs.Landing.LandedRemain.{landed_are_there}
use Rattle.sl_run_law.specs.Landing.Landings.{HasWriter}
use Rattle.sl_run_law.proofs.Place.FoundInLists.{partner_of, place_is}
use Rattle.sl_words.proofs.Lists.{contains_cases, contains_first, contains_map, contains_more, contains_none, find_inside, kept_inside}
use Rattle.sl_run.specs.Runs.{Happening}
use Rattle.sl_run.specs.Safety.{Found, SessionId, is_course_of, trace_of, world_at}
use Rattle.sl_run.specs.Worlds.{Course, Landing, Program, Stamp, World, is_write_course, landed_at, machine_at}
use Rattle.sl_run.specs.declared.header.Header.{Header}
use Rattle.sl_run_law.proofs.Sample.LandingNumbers.{newest_number, number_stays}
use Rattle.sl_run_law.specs.Sample.Samples.{numbered_landing}
use Rattle.sl_run_law.proofs.Sessions.CallsAreMade.{old_stays, same_answered}
use Rattle.sl_trace.specs.Sessions.{calls_of, is_delta_purpose, is_join_call, is_renewal, is_survey_purpose}
use Rattle.sl_trace.specs.Traces.{Answered, Submitted, Trace, answer_of, answered_in, is_write, mark, same_place, submitted}
use Rattle.sl_trace.specs.declared.effects.Entry.{Entry}
use Rattle.sl_trace.specs.declared.effects.JoinStep.TheVariants.{ClaimWrite, FirstRenewal}
use Rattle.sl_trace.specs.declared.effects.Purpose.TheVariants.{Joining, Renewal}
use Rattle.sl_trace.specs.declared.effects.Purpose.{Purpose}
use Rattle.sl_trace.specs.declared.input.Answer.TheVariants.{Written}
use Rattle.sl_run_law.proofs.Watchdog.FoundCalls.{call_inside}
use Rattle.sl_run_law.proofs.Watchdog.Readings.{Counts, IsTold, NextRenewal, Stays, next_renewal, told}
use Rattle.sl_run_law.proofs.Watchdog.OneOpenRenewal.{IsOpenRenewal}
use Rattle.sl_run_law.specs.Watchdog.ActingTimes.{renewal_in}
use Rattle.sl_words.proofs.CaseLaws.{false_is_true, no_value, not_both, none_some, one_value, some_value, true_is_false}
use Rattle.std.proofs.Common.{ap, arith, inl, inr, refl, subst, sym, tests, ◌∙◌}
use Rattle.std.proofs.lemmas.Bool.{eq-eqb, eqb-true}
use Rattle.std.proofs.lemmas.Option.{slice_get_within}
use Rattle.std.specs.Option.{option_map_or, option_or}
use Rattle.std.specs.Prelude.{AllPairs, Bool, Contains, List, None, Option, Some, cond, false, filter, length, not, slice_get, slice_index_or, suc, true, zero, [], ℕ, ◌&&◌, ◌++◌, ◌<◌, ◌==◌, ◌∷◌, ◌≡◌, ◌≤◌, ◌⊎◌}

-- ---- in the trace

-- The renewal that counts is the one that the entry answers.
told_by : {p : Program} {h : Header} {xs : List Happening} {w : World} {i : SessionId} {f g : Found} (t : Through p h xs w i f g) (m : Submitted)
    → renewal_in f.daemon.setting f.daemon.trace f.session t.entry ≡ Some m → NextRenewal f.daemon.setting f.daemon.trace f.session t.entry
    → IsTold f.daemon.trace f.session t.entry.input m
told_by {f = f} t m is (Stays none same) = absurd (no_value m (renewal_in f.daemon.setting f.daemon.trace f.session t.entry) is none)
told_by {f = f} t m is (Counts n in_it told_is now) =
    subst (λ x. IsTold f.daemon.trace f.session t.entry.input x) (one_value n m (renewal_in f.daemon.setting f.daemon.trace f.session t.entry) in_it is)
    (told f.daemon.trace f.session t.entry.input n told_is)

pub told_in : {p : Program} {h : Header} {xs : List Happening} {w : World} {i : SessionId} {f g : Found} (t : Through p h xs w i f g) (m : Submitted)
    → renewal_in f.daemon.setting f.daemon.trace f.session t.entry ≡ Some m → IsTold f.daemon.trace f.session t.entry.input m
told_in {f = f} t m is = told_by t m is (next_renewal f.daemon.setting f.daemon.trace f.session t.entry)

answer_by : (m : Submitted) (a : Answered) (b : Bool) → b ≡ true → m.answer ≡ None
    → (elim b as (λ z. Submitted) [ false ↦ m | true ↦ record m { answer = option_or m.answer (Some a) } ]).answer ≡ Some a
answer_by m a true is none = ap (λ o. option_or o (Some a)) none
answer_by m a false is none = absurd (true_is_false (sym is))

-- Its call after the entry.
pub record IsRenewalCall (i : SessionId) (g : Found) (stamp : Stamp) (at : ℕ) (purpose : Purpose) (c : Course) : Type 0 where
  pub own : Contains (own_courses i g.machine) c
  pub purpose_is : c.call.purpose ≡ purpose
  pub writes : is_write_course c ≡ true
  pub made : stamp_in g.daemon.stamps at ≡ Some c.made
  pub done : c.done ≡ true

pub renewal_call : {p : Program} {h : Header} {xs : List Happening} {w : World} {i : SessionId} {f g : Found} (t : Through p h xs w i f g) (m : Submitted)
    → renewal_in f.daemon.setting f.daemon.trace f.session t.entry ≡ Some m → IsOpenRenewal f.daemon.trace f.session m
    → (c : Course) × IsRenewalCall i g t.stamp m.at m.call.purpose c
renewal_call {i = i} {f = f} {g = g} t m is unmet =
    let es : Trace = f.daemon.trace in
    let e : Entry = t.entry in
    let k : IsTold es f.session e.input m = told_in t m is in
    let x : Submitted = answered_in es e k.number Written m in
    let same = same_answered es e k.number Written m in
    let marked : Contains (mark es e e.input (submitted es)) x =
    subst (λ j. Contains (mark es e j (submitted es)) x) (sym k.told) (contains_map (answered_in es e k.number Written) (submitted es) m unmet.inside) in
    let there : Contains (submitted (e ∷ es)) x = old_stays (length es) e.reading e.effects.calls (mark es e e.input (submitted es)) x marked in
    let mine : Contains (calls_of (trace_of g) g.session) x =
    subst (λ ms. Contains ms x) (sym (trace_calls t)) (call_inside (e ∷ es) f.session x there (ap (λ c. c.session) same.call ∙ unmet.mine)) in
    let r = partner_of (IsCourseOf g.daemon) (own_courses i g.machine) (calls_of (trace_of g) g.session) x (knows t).pairs mine in
    let a : Answered = answer_of es e Written m.call in
    let number = (find_inside (λ (y : Submitted). y.call.number == k.number) (submitted es) m k.found).1 in
    let answer : x.answer ≡ Some a = answer_by m a (m.call.number == k.number) number unmet.waits in
    let agree : IsAnsweredAs g.daemon r.0 a = subst (λ o. AnswersAgree g.daemon r.0 o) answer r.2.answers in
    let call : r.0.call ≡ m.call = sym r.2.call ∙ same.call in (
      r.0,
      record {
        own = r.1;
        purpose_is = ap (λ c. c.purpose) call;
        writes = ap (λ c. is_write c.op) call ∙ unmet.writes;
        made = ap (λ n. stamp_in g.daemon.stamps n) (sym same.at) ∙ r.2.made;
        done = agree.done;
      },
    )

-- ---- in the sector

pub renewal_delta : (p : Purpose) → is_renewal p ≡ true → (is_delta_purpose p && not (is_survey_purpose p)) ≡ true
renewal_delta Renewal h = refl
renewal_delta (Joining j FirstRenewal) h = refl
renewal_delta p h = absurd (false_is_true h)

pub not_claim : (p : Purpose) → is_renewal p ≡ true → is_join_call ClaimWrite p ≡ false
not_claim Renewal h = refl
not_claim (Joining j FirstRenewal) h = refl
not_claim p h = absurd (false_is_true h)

same_sector : (path : List ℕ) (offset : ℕ) (own : List ℕ) (at : ℕ) (there : List ℕ) (by : ℕ) → same_place own at path offset ≡ true → same_place own at there by ≡ true
    → same_place there by path offset ≡ true
same_sector path offset own at there by a b =
    let x = place_is own at path offset a in
    let y = place_is own at there by b in
    is_place there by path offset (sym y.0 ∙ x.0) (sym y.1 ∙ x.1)

filtered_in : {A : Type 0} (p : A → Bool) (x l : A) (ls : List A) (b : Bool) → p x ≡ b → (x ≡ l) ⊎ Contains ls l → p l ≡ true
    → (Contains ls l → Contains (filter p ls) l) → Contains (cond b (x ∷ filter p ls) (filter p ls)) l
filtered_in p x l ls true at (inl e) is rest = subst (λ y. Contains (x ∷ filter p ls) y) e (contains_first x (filter p ls))
filtered_in p x l ls true at (inr more) is rest = contains_more x (filter p ls) l (rest more)
filtered_in p x l ls false at (inl e) is rest = absurd (not_both (p l) is (ap p (sym e) ∙ at))
filtered_in p x l ls false at (inr more) is rest = rest more

pub contains_filtered : {A : Type 0} (p : A → Bool) (ls : List A) (l : A) → Contains ls l → p l ≡ true → Contains (filter p ls) l
contains_filtered p [] l has is = absurd (contains_none l has)
contains_filtered p (x ∷ ls) l has is =
    filtered_in p x l ls (p x) refl (contains_cases x ls l has) is (λ more. contains_filtered p ls l more is)

-- What a call of the session left, it wrote.
pub wrote_it : {p : Program} {h : Header} {xs : List Happening} {w : World} {i : SessionId} {f g : Found} (t : Through p h xs w i f g) (c : Course)
    → Contains (own_courses i g.machine) c → (l : Landing) → Contains (world_at p h xs).landings l → l.writer ≡ Some (i.machine, c.call.number)
    → (x : HasWriter (world_at p h xs) l) × (x.wrote.course ≡ c)
wrote_it {p = p} {h = h} {xs = xs} {i = i} {g = g} t c own l has named =
    let v : World = world_at p h xs in
    let x : HasWriter v l = landings_are_written p h xs t.run l has in
    let machine : x.machine ≡ i.machine = ap (λ o. option_map_or (λ (z : ℕ × ℕ). z.0) o 0) (sym x.named ∙ named) in
    let number : x.call ≡ c.call.number = ap (λ o. option_map_or (λ (z : ℕ × ℕ). z.1) o 0) (sym x.named ∙ named) in
    let a : x.wrote.machine ≡ g.machine =
    one_value x.wrote.machine g.machine (machine_at v i.machine) (ap (machine_at v) (sym machine) ∙ x.wrote.at) (knows t).there.at in (
      x,
      one_call g.machine.calls x.wrote.course c (each_distinct p h xs t.run i.machine g.machine (knows t).there.at)
          (subst (λ m. Contains m.calls x.wrote.course) a x.wrote.has) (kept_inside (is_course_of i) g.machine.calls c own).0
          (eq-eqb x.wrote.course.call.number c.call.number (x.wrote.number ∙ number)),
    )

-- Where a write of the session landed.
pub record HasLeft (w : World) (path : List ℕ) (offset : ℕ) (c : Course) : Type 0 where
  pub landing : Landing
  pub there : Contains (landed_at w path offset) landing
  pub after : (c.made.step < landing.step) × (c.made.moment ≤ landing.moment)

pub renewal_left : {p : Program} {h : Header} {xs : List Happening} {w : World} {i : SessionId} {f g : Found} (t : Through p h xs w i f g) (path : List ℕ) (offset : ℕ)
    → is_sector_of w.layout path offset f.session ≡ true → (at : ℕ) (purpose : Purpose) → is_renewal purpose ≡ true → (c : Course)
    → IsRenewalCall i g t.stamp at purpose c → HasLeft (world_at p h xs) path offset c
renewal_left {p = p} {h = h} {xs = xs} {w = w} {i = i} {f = f} {g = g} t path offset sector at purpose renews c r =
    let v : World = world_at p h xs in
    let has = (kept_inside (is_course_of i) g.machine.calls c r.own).0 in
    let landed = done_writes_have_landed p h xs t.run i.machine g.machine c (knows t).there.at has r.done r.writes in
    let l = landed_are_there p h xs t.run i.machine g.machine c (knows t).there.at has landed in
    let x = wrote_it t c r.own l.0 l.1 l.2 in
    let mine : is_sector_of v.layout path offset g.session ≡ true =
    ap (λ y. is_sector_of v.layout path offset y) t.session ∙ ap (λ y. is_sector_of y path offset f.session) t.layout ∙ sector in
    let own : is_sector_of v.layout c.call.path c.call.offset g.session ≡ true =
    is_at_own v i g c (own_call v i g c (knows t) r.own) (ap (λ y. is_delta_purpose y && not (is_survey_purpose y)) r.purpose_is ∙ renewal_delta purpose renews) in
    let here : same_place c.call.path c.call.offset path offset ≡ true =
    same_sector path offset g.session.path (delta_offset v.layout g.session.offset g.session.id) c.call.path c.call.offset mine own in
    let path_is : c.call.path ≡ l.0.path = ap (λ y. y.call.path) (sym x.1) ∙ x.0.wrote.place.0 in
    let offset_is : c.call.offset ≡ l.0.offset = ap (λ y. y.call.offset) (sym x.1) ∙ x.0.wrote.place.1 in
    record {
      landing = l.0;
      there = contains_filtered (λ k. same_place k.path k.offset path offset) v.landings l.0 l.1
          (ap (λ y. same_place y l.0.offset path offset) (sym path_is) ∙ ap (λ y. same_place c.call.path y path offset) (sym offset_is) ∙ here);
      after = subst (λ y. (y.made.step < l.0.step) × (y.made.moment ≤ l.0.moment)) x.1 x.0.wrote.after;
    }

-- ---- numbers

-- A landing that isn't the first has a number above 0.
pub record IsNumbered (ls : List Landing) (first l : Landing) : Type 0 where
  pub index : ℕ
  pub some : 1 ≤ index
  pub within : index < length (ls ++ first ∷ [])
  pub at : numbered_landing (ls ++ first ∷ []) index ≡ Some l

some_first : (ls : List Landing) (first : Landing) → 1 ≤ length (ls ++ first ∷ [])
some_first [] first = omega arith
some_first (x ∷ ls) first = omega (arith, some_first ls first)

pub numbered : (ls : List Landing) (first l : Landing) → Contains ls l → IsNumbered ls first l
numbered [] first l has = absurd (contains_none l has)
numbered (x ∷ ls) first l has =
    elim (contains_cases x ls l has) as (λ z. IsNumbered (x ∷ ls) first l) [
      | inl e ↦ record {
        index = length (ls ++ first ∷ []);
        some = some_first ls first;
        within = omega arith;
        at = subst (λ y. numbered_landing (x ∷ (ls ++ first ∷ [])) (length (ls ++ first ∷ [])) ≡ Some y) e (newest_number x (ls ++ first ∷ []) (length (ls ++ first ∷ [])) refl);
      }
      | inr more ↦ let r = numbered ls first l more in
          record {
            index = r.index;
            some = r.some;
            within = omega (arith, r.within);
            at = number_stays (x ∷ []) (ls ++ first ∷ []) r.index l r.at;
          }
    ]

-- ---- an older landing has a lesser number

abbrev IsNewer : Landing → Landing → Type 0
IsNewer newer older = (older.step < newer.step) × (older.moment ≤ newer.moment)

index_is : (ls : List Landing) (i : ℕ) (d l : Landing) → slice_get ls i ≡ Some l → slice_index_or ls i d ≡ l
index_is [] i d l h = absurd (none_some l h)
index_is (x ∷ ls) zero d l h = some_value x l h
index_is (x ∷ ls) (suc i) d l h = index_is ls i d l h

pairs_head : (y : Landing) (ls : List Landing) (l : Landing) → AllPairs IsNewer (y ∷ ls) → Contains ls l → IsNewer y l
pairs_head y ls l order has =
    let at = placed_at ls l has in
    subst (IsNewer y) (index_is ls at.0 y l at.1) (order 0 (suc at.0) y (omega arith) (omega (arith, slice_get_within ls at.0 l at.1)))

pairs_tail : (y : Landing) (ls : List Landing) → AllPairs IsNewer (y ∷ ls) → AllPairs IsNewer ls
pairs_tail y ls order i j d lt inside = order (suc i) (suc j) d (omega (arith, lt)) (omega (arith, inside))

index_by : (q : ℕ × ℕ) (x : Landing) (ls : List Landing) (b : Bool) → (1 ≤ length ls → index_of q ls < length ls) → (length ls ≡ 0) ⊎ (1 ≤ length ls)
    → (length ls ≡ 0 → index_of q ls ≡ 0)
    → elim b as (λ z. ℕ) [ true ↦ length ls | false ↦ index_of q ls ] < suc (length ls)
index_by q x ls true rest some none = omega arith
index_by q x ls false rest (inl e) none = omega (arith, none e, e)
index_by q x ls false rest (inr le) none = omega (arith, rest le)

none_or_some : (n : ℕ) → (n ≡ 0) ⊎ (1 ≤ n)
none_or_some zero = inl refl
none_or_some (suc n) = inr (omega arith)

empty_index : (q : ℕ × ℕ) (ls : List Landing) → length ls ≡ 0 → index_of q ls ≡ 0
empty_index q [] h = refl
empty_index q (x ∷ ls) h = absurd (omega (arith, h))

index_within : (q : ℕ × ℕ) (ls : List Landing) → 1 ≤ length ls → index_of q ls < length ls
index_within q [] h = absurd (omega (arith, h))
index_within q (x ∷ ls) h = index_by q x ls (is_left_by q x) (index_within q ls) (none_or_some (length ls)) (empty_index q ls)

not_first : (first l : Landing) (k : ℕ) (b : Bool) → (k == 0) ≡ b → 1 ≤ k → elim b as (λ z. Option Landing) [ true ↦ Some first | false ↦ None ] ≡ Some l → ⊥
not_first first l k true is some h = grind (arith, tests)
not_first first l k false is some h = none_some l h

inside_by : (x l : Landing) (ls rest : List Landing) (k : ℕ) (b : Bool) → elim b as (λ z. Option Landing) [ true ↦ Some x | false ↦ numbered_landing rest k ] ≡ Some l
    → (numbered_landing rest k ≡ Some l → Contains ls l) → Contains (x ∷ ls) l
inside_by x l ls rest k true h more = subst (λ y. Contains (x ∷ ls) y) (some_value x l h) (contains_first x ls)
inside_by x l ls rest k false h more = contains_more x ls l (more h)

inside_front : (ls : List Landing) (first l : Landing) (k : ℕ) → 1 ≤ k → numbered_landing (ls ++ first ∷ []) k ≡ Some l → Contains ls l
inside_front [] first l k some h = absurd (not_first first l k (k == 0) refl some h)
inside_front (x ∷ ls) first l k some h =
    inside_by x l ls (ls ++ first ∷ []) k (k == length (ls ++ first ∷ [])) h (inside_front ls first l k some)

lesser_by : (q : ℕ × ℕ) (y l : Landing) (rest : List Landing) (k : ℕ) (a b : Bool) → (k == length rest) ≡ a → is_left_by q y ≡ b → 1 ≤ k
    → elim a as (λ z. Option Landing) [ true ↦ Some y | false ↦ numbered_landing rest k ] ≡ Some l → (is_left_by q y ≡ true → y.step < l.step)
    → (numbered_landing rest k ≡ Some l → l.step < y.step) → (numbered_landing rest k ≡ Some l → index_of q rest < k)
    → elim b as (λ z. ℕ) [ true ↦ length rest | false ↦ index_of q rest ] < k
lesser_by q y l rest k true true at left some h earlier order more =
    let same : y.step ≡ l.step = ap (λ (z : Landing). z.step) (some_value y l h) in absurd (omega (arith, earlier left, same))
lesser_by q y l rest k true false at left some h earlier order more =
    let e : k ≡ length rest = eqb-true k (length rest) at in omega (arith, e, index_within q rest (omega (arith, some, e)))
lesser_by q y l rest k false true at left some h earlier order more = absurd (omega (arith, earlier left, order h))
lesser_by q y l rest k false false at left some h earlier order more = more h

-- What was left before a landing has a lesser number.
pub lesser : (q : ℕ × ℕ) (ls : List Landing) (first l : Landing) (k : ℕ) → 1 ≤ k → numbered_landing (ls ++ first ∷ []) k ≡ Some l → AllPairs IsNewer ls
    → ((x : Landing) → Contains ls x → is_left_by q x ≡ true → x.step < l.step) → index_of q (ls ++ first ∷ []) < k
lesser q [] first l k some h order earlier = absurd (not_first first l k (k == 0) refl some h)
lesser q (y ∷ ls) first l k some h order earlier =
    lesser_by q y l (ls ++ first ∷ []) k (k == length (ls ++ first ∷ [])) (is_left_by q y) refl refl some h (earlier y (contains_first y ls))
    (λ there. (pairs_head y ls l order (inside_front ls first l k some there)).0)
    (λ there. lesser q ls first l k some there (pairs_tail y ls order) (λ x has. earlier x (contains_more y ls x has)))
