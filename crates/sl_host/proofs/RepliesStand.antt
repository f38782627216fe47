-- Joinings that are refused one by one are refused together.
use Rattle.sl_host_state.specs.KeptState.{HostState, MemberState}
use Rattle.sl_host_state.specs.MadeEffects.{with_reply}
use Rattle.sl_host_state.specs.HostStands.{is_joining}
use Rattle.sl_host_state.specs.declared.kept_parts.OpenCall.{OpenCall}
use Rattle.sl_member.specs.HostMembers.{AreApart, changed_member, is_joining_by, member_with}
use Rattle.sl_trace.specs.Sessions.{is_join_done}
use Rattle.sl_time.specs.Times.{TimingNumbers, fail}
use Rattle.sl_trace.specs.declared.command.Command.{Command}
use Rattle.sl_trace.specs.declared.reply.Reply.TheVariants.{Generation}
use Rattle.sl_trace.specs.declared.reply.Reply.{Reply}
use Rattle.sl_host.specs.Books.{BooksState, books_replying, host_of}
use Rattle.sl_host.specs.ReplyJoinings.{HasClaims, moments_by, refusal_of, refused_at, refused_by, writes_in}
use Rattle.sl_words.proofs.CaseLaws.{none_some, some_value}
use Rattle.sl_words.specs.Words.{some_is}
use Rattle.std.proofs.Common.{ap, arith, refl, subst, suc, sym, true≢false, zero, ◌∙◌}
use Rattle.std.proofs.lemmas.Bool.Decides.{Decides-eqb}
use Rattle.std.proofs.lemmas.Grind.{flat_map-append}
use Rattle.std.proofs.lemmas.List.Concat.{flat_map-cons}
use Rattle.std.specs.Cmp.{nat_eq_equiv}
use Rattle.std.specs.List.{AllByRecursion, flat_map}
use Rattle.std.specs.Prelude.{Bool, List, None, Option, Result, Some, [], cond, false, filter, find, fold, length, map, min, not, option_map, slice_get, take, true, ℕ, ◌&&◌, ◌++◌, ◌+◌, ◌<◌, ◌==◌, ◌∷◌, ◌≡◌, ◌≤◌}

abbrev number_of : MemberState → ℕ
number_of s = s.who.number

same_number : (n k : ℕ) → n ≡ k → (n == k) ≡ true
same_number n k is = (Decides-eqb n k).1 is

-- ---- one by one

pub changed_is : (cs : List OpenCall) (n : ℕ) (ms : List MemberState) → writes_in cs n ≡ true → changed_member n (λ s. record s { refused = true }) ms ≡ flat_map (refused_at cs n) ms
changed_is cs n [] is = refl
changed_is cs n (s ∷ ms) is =
    by (n == number_of s) refl (changed_is cs n ms is) ∙ sym (flat_map-cons (refused_at cs n) s ms)
  where
    by : (b : Bool) → (n == number_of s) ≡ b → changed_member n (λ s. record s { refused = true }) ms ≡ flat_map (refused_at cs n) ms
        → cond b (record s { refused = true }) s ∷ changed_member n (λ s. record s { refused = true }) ms ≡ cond b (refusal_of cs s) (s ∷ []) ++ flat_map (refused_at cs n) ms
    by true own rest =
        ap (λ zs. record s { refused = true } ∷ zs) rest
        ∙ ap (λ c. cond c (record s { refused = true } ∷ []) [] ++ flat_map (refused_at cs n) ms) (sym (ap (λ k. writes_in cs k) (sym ((Decides-eqb n (number_of s)).0 own)) ∙ is))
    by false own rest = ap (λ zs. s ∷ zs) rest

pub removed_is : (cs : List OpenCall) (n : ℕ) (ms : List MemberState) → writes_in cs n ≡ false → filter (λ s. not (n == s.who.number)) ms ≡ flat_map (refused_at cs n) ms
removed_is cs n [] is = refl
removed_is cs n (s ∷ ms) is =
    by (n == number_of s) refl (removed_is cs n ms is) ∙ sym (flat_map-cons (refused_at cs n) s ms)
  where
    by : (b : Bool) → (n == number_of s) ≡ b → filter (λ s. not (n == s.who.number)) ms ≡ flat_map (refused_at cs n) ms
        → cond (not b) (s ∷ filter (λ s. not (n == s.who.number)) ms) (filter (λ s. not (n == s.who.number)) ms) ≡ cond b (refusal_of cs s) (s ∷ []) ++ flat_map (refused_at cs n) ms
    by true own rest =
        rest ∙ ap (λ c. cond c (record s { refused = true } ∷ []) [] ++ flat_map (refused_at cs n) ms) (sym (ap (λ k. writes_in cs k) (sym ((Decides-eqb n (number_of s)).0 own)) ∙ is))
    by false own rest = ap (λ zs. s ∷ zs) rest

-- ---- together

-- How many are joining by the job.
abbrev pub joining_in : ℕ → List MemberState → ℕ
joining_in job [] = 0
joining_in job (s ∷ ms) = cond (is_joining_by job s) 1 0 + joining_in job ms

found_off : (job i : ℕ) (ms : List MemberState) (s : MemberState) → find (is_joining_by job) ms ≡ Some s → AllByRecursion (λ k. (i == k) ≡ false) (map number_of ms) → (i == number_of s) ≡ false
found_off job i [] s found h = absurd (none_some s found)
found_off job i (m ∷ ms) s found h = by (is_joining_by job m) found (λ at. found_off job i ms s at h.1)
  where
    by : (b : Bool) → cond b (Some m) (find (is_joining_by job) ms) ≡ Some s → (find (is_joining_by job) ms ≡ Some s → (i == number_of s) ≡ false) → (i == number_of s) ≡ false
    by true at rest = sym (ap (λ t. i == number_of t) (some_value m s at)) ∙ h.0
    by false at rest = rest at

-- What is left of a member where joinings by a job are answered, and where that of a number is: this of it.
abbrev pub by_job : (MemberState → List MemberState) → ℕ → MemberState → List MemberState
by_job one job s = cond (is_joining_by job s) (one s) (s ∷ [])

abbrev pub at_number : (MemberState → List MemberState) → ℕ → MemberState → List MemberState
at_number one n s = cond (n == s.who.number) (one s) (s ∷ [])

-- None of it joins by the job any more.
pub record IsAnswered (one : MemberState → List MemberState) (job : ℕ) : Type 0 where
  pub stays : (s : MemberState) → flat_map (by_job one job) (one s) ≡ one s
  pub none_left : (s : MemberState) → joining_in job (one s) ≡ 0

module _ (cs : List OpenCall) (job : ℕ) where
  off : (a x : Bool) → ((not a && false) && x) ≡ false
  off true x = refl
  off false x = refl

  refused_off : (s : MemberState) → is_joining_by job (record s { refused = true }) ≡ false
  refused_off s = off s.joined (some_is (λ j. j == job) s.who.job)

  stays : (s : MemberState) → flat_map (refused_by cs job) (refusal_of cs s) ≡ refusal_of cs s
  stays s = by (writes_in cs (number_of s))
    where
      r : MemberState
      r = record s { refused = true }

      by : (b : Bool) → flat_map (refused_by cs job) (cond b (record s { refused = true } ∷ []) []) ≡ cond b (record s { refused = true } ∷ []) []
      by true =
          flat_map-cons (refused_by cs job) (record s { refused = true }) []
          ∙ ap (λ c. cond c (refusal_of cs (record s { refused = true })) (record s { refused = true } ∷ []) ++ []) (refused_off s)
      by false = refl

  none_left : (s : MemberState) → joining_in job (refusal_of cs s) ≡ 0
  none_left s = by (writes_in cs (number_of s))
    where
      by : (b : Bool) → joining_in job (cond b (record s { refused = true } ∷ []) []) ≡ 0
      by true = ap (λ c. cond c 1 0 + 0) (refused_off s)
      by false = refl

  pub is_refused : IsAnswered (refusal_of cs) job
  is_refused = record { stays = stays; none_left = none_left }

module _ (job : ℕ) where
  joined_off : (s : MemberState) → is_joining_by job (record s { joined = true }) ≡ false
  joined_off s = refl

  pub is_joined : IsAnswered (λ s. record s { joined = true } ∷ []) job
  is_joined = record { stays = λ s. refl; none_left = λ s. refl }

module _ (one : MemberState → List MemberState) (job : ℕ) (answered : IsAnswered one job) where
  others : (n : ℕ) (ms : List MemberState) → AllByRecursion (λ k. (n == k) ≡ false) (map number_of ms) → flat_map (at_number one n) ms ≡ ms
  others n [] h = refl
  others n (s ∷ ms) h =
      flat_map-cons (at_number one n) s ms ∙ (ap (λ b. cond b (one s) (s ∷ []) ++ flat_map (at_number one n) ms) h.0 ∙ ap (λ zs. s ∷ zs) (others n ms h.1))

  counted_more : (xs ys : List MemberState) → joining_in job (xs ++ ys) ≡ joining_in job xs + joining_in job ys
  counted_more [] ys = omega arith
  counted_more (x ∷ xs) ys = let h = counted_more xs ys in omega (arith, h)

  -- The first of them refused, all are refused as before, and there is one less.
  abbrev Steps : List MemberState → MemberState → Type 0
  Steps ms s =
      (flat_map (by_job one job) (flat_map (at_number one (number_of s)) ms) ≡ flat_map (by_job one job) ms)
      × (joining_in job (flat_map (at_number one (number_of s)) ms) + 1 ≡ joining_in job ms)

  first_is : (m : MemberState) (ms : List MemberState) → AreApart (map number_of (m ∷ ms)) → is_joining_by job m ≡ true → Steps (m ∷ ms) m
  first_is m ms apart is =
      let all : flat_map (at_number one (number_of m)) (m ∷ ms) ≡ one m ++ ms =
      flat_map-cons (at_number one (number_of m)) m ms
      ∙ (ap (λ b. cond b (one m) (m ∷ []) ++ flat_map (at_number one (number_of m)) ms) (same_number (number_of m) (number_of m) refl)
      ∙ ap (λ zs. one m ++ zs) (others (number_of m) ms apart.0)) in
      let more = counted_more (one m) ms in
      let none = answered.none_left m in
      let lone = ap (λ b. cond b 1 0 + joining_in job ms) is in
      let left = ap (joining_in job) all in (
        ap (flat_map (by_job one job)) all
            ∙ (flat_map-append (by_job one job) (one m) ms
            ∙ (ap (λ zs. zs ++ flat_map (by_job one job) ms) (answered.stays m)
            ∙ (sym (ap (λ b. cond b (one m) (m ∷ []) ++ flat_map (by_job one job) ms) is) ∙ sym (flat_map-cons (by_job one job) m ms)))),
        omega (arith, more, none, lone, left),
      )

  later_is : (m : MemberState) (ms : List MemberState) (s : MemberState) → (number_of s == number_of m) ≡ false → is_joining_by job m ≡ false → Steps ms s → Steps (m ∷ ms) s
  later_is m ms s other is rest =
      let all : flat_map (at_number one (number_of s)) (m ∷ ms) ≡ m ∷ flat_map (at_number one (number_of s)) ms =
      flat_map-cons (at_number one (number_of s)) m ms ∙ ap (λ b. cond b (one m) (m ∷ []) ++ flat_map (at_number one (number_of s)) ms) other in
      let left = ap (joining_in job) all in
      let h = rest.1 in (
        ap (flat_map (by_job one job)) all
            ∙ (flat_map-cons (by_job one job) m (flat_map (at_number one (number_of s)) ms)
            ∙ (ap (λ zs. by_job one job m ++ zs) rest.0 ∙ sym (flat_map-cons (by_job one job) m ms))),
        omega (arith, left, h),
      )

  step_is : (ms : List MemberState) (s : MemberState) → AreApart (map number_of ms) → find (is_joining_by job) ms ≡ Some s → Steps ms s
  step_is [] s apart found = absurd (none_some s found)
  step_is (m ∷ ms) s apart found = by (is_joining_by job m) refl found (λ at. step_is ms s apart.1 at)
    where
      by : (b : Bool) → is_joining_by job m ≡ b → cond b (Some m) (find (is_joining_by job) ms) ≡ Some s → (find (is_joining_by job) ms ≡ Some s → Steps ms s) → Steps (m ∷ ms) s
      by true is at rest = subst (λ t. Steps (m ∷ ms) t) (some_value m s at) (first_is m ms apart is)
      by false is at rest = later_is m ms s (nat_eq_equiv.symm (number_of s) (number_of m) ∙ found_off job (number_of m) ms s at apart.0) is (rest at)

  -- Where none is joining by the job, all stay.
  pub none_answered : (ms : List MemberState) → find (is_joining_by job) ms ≡ None → ms ≡ flat_map (by_job one job) ms
  none_answered [] none = refl
  none_answered (m ∷ ms) none = by (is_joining_by job m) refl none (λ at. none_answered ms at)
    where
      by : (b : Bool) → is_joining_by job m ≡ b → cond b (Some m) (find (is_joining_by job) ms) ≡ None → (find (is_joining_by job) ms ≡ None → ms ≡ flat_map (by_job one job) ms)
          → m ∷ ms ≡ flat_map (by_job one job) (m ∷ ms)
      by true is at rest = absurd (none_some m (sym at))
      by false is at rest =
          ap (λ zs. m ∷ zs) (rest at)
          ∙ (sym (ap (λ b. cond b (one m) (m ∷ []) ++ flat_map (by_job one job) ms) is) ∙ sym (flat_map-cons (by_job one job) m ms))

-- The number of a member, if it is there.
abbrev pub option_number : Option MemberState → Option ℕ
option_number o = option_map (λ s. s.who.number) o

-- One pass of the loop: this number was found, and its member answered.
pub answered_more : (one : MemberState → List MemberState) (job n : ℕ) (ms ns : List MemberState) → IsAnswered one job → AreApart (map (λ (s : MemberState). s.who.number) ms)
    → Some n ≡ option_number (find (is_joining_by job) ms) → ns ≡ flat_map (at_number one n) ms
    → (flat_map (by_job one job) ns ≡ flat_map (by_job one job) ms) × (joining_in job ns < joining_in job ms)
answered_more one job n ms ns answered apart found made = by (find (is_joining_by job) ms) refl found
  where
    by : (o : Option MemberState) → find (is_joining_by job) ms ≡ o → Some n ≡ option_number o
        → (flat_map (by_job one job) ns ≡ flat_map (by_job one job) ms) × (joining_in job ns < joining_in job ms)
    by None at is = absurd (none_some n (sym is))
    by (Some s) at is =
        let made_so : ns ≡ flat_map (at_number one s.who.number) ms = made ∙ ap (λ k. flat_map (at_number one k) ms) (some_value n s.who.number is) in
        let h = step_is one job answered ms s apart at in
        let left = h.1 in
        let same = ap (joining_in job) made_so in
        (ap (flat_map (by_job one job)) made_so ∙ h.0, omega (arith, left, same))

pub none_found : (job : ℕ) (ms : List MemberState) → None ≡ option_number (find (is_joining_by job) ms) → find (is_joining_by job) ms ≡ None
none_found job ms is = by (find (is_joining_by job) ms) is
  where
    by : (o : Option MemberState) → None ≡ option_number o → o ≡ None
    by None is = refl
    by (Some s) is = absurd (none_some s.who.number is)

-- ---- a joining that is done

pub joined_at : (n : ℕ) (ms : List MemberState) → changed_member n (λ s. record s { joined = true }) ms ≡ flat_map (at_number (λ s. record s { joined = true } ∷ []) n) ms
joined_at n [] = refl
joined_at n (s ∷ ms) = by (n == number_of s) (joined_at n ms)
  where
    by : (b : Bool) → changed_member n (λ s. record s { joined = true }) ms ≡ flat_map (at_number (λ s. record s { joined = true } ∷ []) n) ms
        → cond b (record s { joined = true }) s ∷ changed_member n (λ s. record s { joined = true }) ms
        ≡ cond b (record s { joined = true } ∷ []) (s ∷ []) ++ flat_map (at_number (λ s. record s { joined = true } ∷ []) n) ms
    by true rest = ap (λ zs. record s { joined = true } ∷ zs) rest
    by false rest = ap (λ zs. s ∷ zs) rest

pub claims_stay : (job n : ℕ) (ms ns : List MemberState) → HasClaims job ms → ns ≡ changed_member n (λ s. record s { joined = true }) ms → HasClaims job ns
claims_stay job n ms ns h is = subst (λ zs. HasClaims job zs) (sym is) (all ms h)
  where
    all : (ms : List MemberState) → HasClaims job ms → HasClaims job (changed_member n (λ s. record s { joined = true }) ms)
    all [] h = tt
    all (s ∷ ms) h = by (n == number_of s) (all ms h.1)
      where
        by : (b : Bool) → HasClaims job (changed_member n (λ s. record s { joined = true }) ms)
            → HasClaims job (cond b (record s { joined = true }) s ∷ changed_member n (λ s. record s { joined = true }) ms)
        by true rest = (h.0, rest)
        by false rest = (h.0, rest)

both_true : (a b : Bool) → (a && b) ≡ true → b ≡ true
both_true true b is = is
both_true false b is = absurd (true≢false (sym is))

-- The member of the number that was found has claimed a generation.
claimed_there : (job : ℕ) (ms : List MemberState) (s t : MemberState) → AreApart (map (λ (s : MemberState). s.who.number) ms) → find (is_joining_by job) ms ≡ Some s → HasClaims job ms
    → member_with s.who.number ms ≡ Some t → 1 ≤ t.known.generation
claimed_there job [] s t apart found claims at = absurd (none_some s found)
claimed_there job (m ∷ ms) s t apart found claims at =
    by (is_joining_by job m) refl found (λ more there. claimed_there job ms s t apart.1 more claims.1 there)
  where
    by : (b : Bool) → is_joining_by job m ≡ b → cond b (Some m) (find (is_joining_by job) ms) ≡ Some s
        → (find (is_joining_by job) ms ≡ Some s → member_with s.who.number ms ≡ Some t → 1 ≤ t.known.generation) → 1 ≤ t.known.generation
    by true is here rest =
        let same : m ≡ s = some_value m s here in
        let own : (number_of m == number_of s) ≡ true = same_number (number_of m) (number_of s) (ap number_of same) in
        let it : m ≡ t = some_value m t (sym (ap (λ b. cond b (Some m) (member_with s.who.number ms)) own) ∙ at) in
        subst (λ (u : MemberState). 1 ≤ u.known.generation) it (claims.0 (both_true (is_joining m) (some_is (λ j. j == job) m.who.job) is))
    by false is later rest =
        let other : (number_of m == number_of s) ≡ false = found_off job (number_of m) ms s later apart.0 in
        rest later (sym (ap (λ b. cond b (Some m) (member_with s.who.number ms)) other) ∙ at)

pub claimed_at : (job n : ℕ) (ms : List MemberState) → AreApart (map (λ (s : MemberState). s.who.number) ms) → Some n ≡ option_number (find (is_joining_by job) ms) → HasClaims job ms
    → (t : MemberState) → member_with n ms ≡ Some t → 1 ≤ t.known.generation
claimed_at job n ms apart found claims t at = by (find (is_joining_by job) ms) refl found
  where
    by : (o : Option MemberState) → find (is_joining_by job) ms ≡ o → Some n ≡ option_number o → 1 ≤ t.known.generation
    by None there is = absurd (none_some n (sym is))
    by (Some s) there is = claimed_there job ms s t apart there claims (ap (λ k. member_with k ms) (sym (some_value n s.who.number is)) ∙ at)

-- The moments of recovery of these, by one more.
moments_next : (tm : TimingNumbers) (job k q q' : ℕ) (ms : List MemberState) (m : MemberState) → slice_get ms k ≡ Some m → q' ≡ fold (λ q now. min q now) q (moments_by tm job (take k ms))
    → cond (some_is (λ j. j == job) m.who.job) (min q' (m.renewing.last + fail tm)) q' ≡ fold (λ q now. min q now) q (moments_by tm job (take (suc k) ms))
moments_next tm job k q q' [] m at is = absurd (none_some m at)
moments_next tm job zero q q' (x ∷ ms) m at is =
    ap (λ (y : MemberState). cond (some_is (λ j. j == job) y.who.job) (min q' (y.renewing.last + fail tm)) q') (sym (some_value x m at))
    ∙ (ap (λ p. cond (some_is (λ j. j == job) x.who.job) (min p (x.renewing.last + fail tm)) p) is ∙ by (some_is (λ j. j == job) x.who.job))
  where
    by : (b : Bool) → cond b (min q (x.renewing.last + fail tm)) q ≡ fold (λ q now. min q now) q (map (λ (y : MemberState). y.renewing.last + fail tm) (cond b (x ∷ []) []))
    by true = refl
    by false = refl
moments_next tm job (suc k) q q' (x ∷ ms) m at is = by (some_is (λ j. j == job) x.who.job) is (λ p h. moments_next tm job k p q' ms m at h)
  where
    by : (b : Bool)
        → q' ≡ fold (λ q now. min q now) q (map (λ (y : MemberState). y.renewing.last + fail tm) (cond b (x ∷ filter (λ y. some_is (λ j. j == job) y.who.job) (take k ms)) (filter (λ y. some_is (λ j. j == job) y.who.job) (take k ms))))
        → ((p : ℕ) → q' ≡ fold (λ q now. min q now) p (moments_by tm job (take k ms))
        → cond (some_is (λ j. j == job) m.who.job) (min q' (m.renewing.last + fail tm)) q' ≡ fold (λ q now. min q now) p (moments_by tm job (take (suc k) ms)))
        → cond (some_is (λ j. j == job) m.who.job) (min q' (m.renewing.last + fail tm)) q'
        ≡ fold (λ q now. min q now) q (map (λ (y : MemberState). y.renewing.last + fail tm) (cond b (x ∷ filter (λ y. some_is (λ j. j == job) y.who.job) (take (suc k) ms)) (filter (λ y. some_is (λ j. j == job) y.who.job) (take (suc k) ms))))
    by true h rest = rest (min q (x.renewing.last + fail tm)) h
    by false h rest = rest q h

pub moments_more : (tm : TimingNumbers) (job k q q' f r : ℕ) (ms : List MemberState) (m : MemberState) → slice_get ms k ≡ Some m → q' ≡ fold (λ q now. min q now) q (moments_by tm job (take k ms))
    → f ≡ fail tm → r ≡ cond (some_is (λ j. j == job) m.who.job) (min q' (m.renewing.last + f)) q'
    → r ≡ fold (λ q now. min q now) q (moments_by tm job (take (k + 1) ms))
moments_more tm job k q q' f r ms m at is time made =
    made
    ∙ (ap (λ t. cond (some_is (λ j. j == job) m.who.job) (min q' (m.renewing.last + t)) q') time
    ∙ (moments_next tm job k q q' ms m at is ∙ ap (λ n. fold (λ q now. min q now) q (moments_by tm job (take n ms))) (let e : suc k ≡ k + 1 = omega arith in e)))

take_whole : (ms : List MemberState) (n : ℕ) → length ms ≤ n → take n ms ≡ ms
take_whole [] zero le = refl
take_whole [] (suc n) le = refl
take_whole (m ∷ ms) zero le = absurd (omega (arith, le))
take_whole (m ∷ ms) (suc n) le = ap (λ zs. m ∷ zs) (take_whole ms n (omega (arith, le)))

pub moments_all : (tm : TimingNumbers) (job n q r : ℕ) (ms : List MemberState) → length ms ≤ n → r ≡ fold (λ q now. min q now) q (moments_by tm job (take n ms))
    → r ≡ fold (λ q now. min q now) q (moments_by tm job ms)
moments_all tm job n q r ms le is = is ∙ ap (λ zs. fold (λ q now. min q now) q (moments_by tm job zs)) (take_whole ms n le)

-- The reply of a joining that is done.
pub join_follows : (read : List ℕ → Result Command ℕ) (ms ns : List MemberState) (b : BooksState) (job g q : ℕ) → ns ≡ flat_map (by_job (λ s. record s { joined = true } ∷ []) job) ms
    → q ≡ fold (λ q now. min q now) b.quiet_until (moments_by b.config.timing job ms)
    → host_of read ns (record (books_replying job (Generation g) b) { quiet_until = q }) ≡ with_reply job (Generation g) (host_of read ms b)
join_follows read ms ns b job g q is low = λ i. host_of read (is i) (record (books_replying job (Generation g) b) { quiet_until = low i })

-- A reply that is no joining's done.
pub reply_follows : (read : List ℕ → Result Command ℕ) (ms ns : List MemberState) (b : BooksState) (job : ℕ) (r : Reply) → is_join_done r ≡ false → ns ≡ flat_map (refused_by b.unanswered job) ms
    → host_of read ns (books_replying job r b) ≡ with_reply job r (host_of read ms b)
reply_follows read ms ns b job r plain is =
    ap (λ zs. host_of read zs (books_replying job r b)) is ∙ sym (ap (λ d. answered d) plain)
  where
    answered : Bool → HostState
    answered d =
        record (host_of read ms (books_replying job r b)) {
          members = flat_map (λ m. cond (is_joining m && some_is (λ j. j == job) m.who.job) (cond d (record m { joined = true } ∷ []) (refusal_of b.unanswered m)) (m ∷ [])) ms;
          quiet_until = fold (λ q now. min q now) b.quiet_until (cond d (map (λ m. m.renewing.last + fail b.config.timing) (filter (λ m. some_is (λ j. j == job) m.who.job) ms)) []);
        }
