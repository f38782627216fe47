-- What is told to members one after another is told as a whole; refused members that are over go one by one.
use Rattle.sl_area.specs.AreaSizes.{Sizes, layout_of}
use Rattle.sl_area.specs.Pairs.{pair_back}
use Rattle.sl_host_state.specs.HeardInputs.{renewed_of}
use Rattle.sl_host_state.specs.KeptState.{MemberState}
use Rattle.sl_host_state.specs.declared.kept_parts.OpenCall.{OpenCall}
use Rattle.sl_lease.specs.Reads.{is_asked_again}
use Rattle.sl_member.specs.Members.{RunOf, own_told, renewing_told}
use Rattle.sl_member.specs.HostMembers.{AreApart, MembersState, changed_member, member_with, told_survey}
use Rattle.sl_words.proofs.Lists.{contains_cases, contains_first, contains_more, contains_none, find_inside, got_inside}
use Rattle.sl_sector.specs.declared.sector.PairBlock.{PairBlock}
use Rattle.sl_trace.specs.LeaseDecisions.{part_read, read_of_step}
use Rattle.sl_trace.specs.Sessions.{is_join_call}
use Rattle.sl_trace.specs.declared.session.Begun.{Begun}
use Rattle.sl_trace.specs.declared.effects.JoinStep.TheVariants.{ClaimWrite, DecidingRead, FirstRead, FirstRenewal, VerifyRead, WatchRead}
use Rattle.sl_trace.specs.declared.effects.LeaseStep.{LeaseStep}
use Rattle.sl_trace.specs.declared.effects.Purpose.TheVariants.{Joining, Lease, Leaving, Renewal, RequestRead, RequestWrite, SeeRequest, Survey, ValueRead, ValueWrite}
use Rattle.sl_trace.specs.declared.effects.Purpose.{Purpose}
use Rattle.sl_trace.specs.declared.input.Answer.TheVariants.{Read}
use Rattle.sl_trace.specs.declared.input.Answer.{Answer}
use Rattle.sl_host.specs.HeardAnswers.{is_over_in, own_heard, renewals_told, request_heard, shows_at, survey_heard, tells_renewals}
use Rattle.sl_words.proofs.CaseLaws.{none_some, some_value}
use Rattle.std.proofs.Common.{ap, arith, inl, inr, refl, subst, suc, sym, true≢false, zero, ◌∙◌}
use Rattle.std.proofs.lemmas.Bool.Decides.{Decides-eqb}
use Rattle.std.specs.Cmp.{nat_eq_equiv}
use Rattle.std.specs.List.{AllByRecursion, list_any, range_with_len}
use Rattle.std.specs.Option.{option_map_or}
use Rattle.std.specs.Prelude.{Bool, Contains, List, None, Option, Some, [], cond, false, filter, find, is_none, is_some, length, map, not, option_map, slice_get, true, unwrap_or, ℕ, ◌&&◌, ◌+◌, ◌-◌, ◌<◌, ◌==◌, ◌∷◌, ◌≡◌, ◌⊎◌}

abbrev pub number_of : MemberState → ℕ
number_of s = s.who.number

-- ---- changes of the members of a number

-- By functions that agree on them.
pub changed_as : (n : ℕ) (f g : MemberState → MemberState) (ms : List MemberState) → ((m : MemberState) → Contains ms m → (n == m.who.number) ≡ true → f m ≡ g m) → changed_member n f ms ≡ changed_member n g ms
changed_as n f g [] same = refl
changed_as n f g (m ∷ ms) same = by (n == number_of m) refl (changed_as n f g ms (λ k there is. same k (contains_more m ms k there) is))
  where
    by : (b : Bool) → (n == number_of m) ≡ b → changed_member n f ms ≡ changed_member n g ms → cond b (f m) m ∷ changed_member n f ms ≡ cond b (g m) m ∷ changed_member n g ms
    by true is rest = ap (λ x. x ∷ changed_member n f ms) (same m (contains_first m ms) is) ∙ ap (λ zs. g m ∷ zs) rest
    by false is rest = ap (λ zs. m ∷ zs) rest

-- Of which each is where none changes.
pub none_changed : (n : ℕ) (ms : List MemberState) → ms ≡ changed_member n (λ m. m) ms
none_changed n [] = refl
none_changed n (m ∷ ms) = by (n == number_of m) (none_changed n ms)
  where
    by : (b : Bool) → ms ≡ changed_member n (λ m. m) ms → m ∷ ms ≡ cond b m m ∷ changed_member n (λ m. m) ms
    by true rest = ap (λ zs. m ∷ zs) rest
    by false rest = ap (λ zs. m ∷ zs) rest

-- One after another, where the first leaves who it is.
pub changed_twice : (n : ℕ) (f g : MemberState → MemberState) (ms : List MemberState) → ((m : MemberState) → (g m).who ≡ m.who) → changed_member n f (changed_member n g ms) ≡ changed_member n (λ m. f (g m)) ms
changed_twice n f g [] who = refl
changed_twice n f g (m ∷ ms) who = by (n == number_of m) refl (changed_twice n f g ms who)
  where
    by : (b : Bool) → (n == number_of m) ≡ b → changed_member n f (changed_member n g ms) ≡ changed_member n (λ m. f (g m)) ms
        → cond (n == number_of (cond b (g m) m)) (f (cond b (g m) m)) (cond b (g m) m) ∷ changed_member n f (changed_member n g ms) ≡ cond b (f (g m)) m ∷ changed_member n (λ m. f (g m)) ms
    by true is rest = ap (λ t. cond t (f (g m)) (g m) ∷ changed_member n f (changed_member n g ms)) (ap (λ s. n == s.number) (who m) ∙ is) ∙ ap (λ zs. f (g m) ∷ zs) rest
    by false is rest = ap (λ t. cond t (f m) m ∷ changed_member n f (changed_member n g ms)) is ∙ ap (λ zs. m ∷ zs) rest

-- ---- the member of a number

off_number : (n : ℕ) (ms : List MemberState) → AllByRecursion (λ k. (n == k) ≡ false) (map number_of ms) → (m : MemberState) → Contains ms m → (n == number_of m) ≡ false
off_number n [] off m there = absurd (contains_none m there)
off_number n (x ∷ ms) off m there =
    elim (contains_cases x ms m there) [ inl here ↦ subst (λ (y : MemberState). (n == number_of y) ≡ false) here off.0 | inr rest ↦ off_number n ms off.1 m rest ]

-- Where numbers are apart, a member of this number is the one that is found.
pub the_member : (n : ℕ) (ms : List MemberState) (m : MemberState) → AreApart (map (λ (s : MemberState). s.who.number) ms) → Contains ms m → (n == m.who.number) ≡ true → member_with n ms ≡ Some m
the_member n [] m apart there its = absurd (contains_none m there)
the_member n (x ∷ ms) m apart there its = by (contains_cases x ms m there) (λ rest. the_member n ms m apart.1 rest its)
  where
    its_own : (number_of m == n) ≡ true
    its_own = nat_eq_equiv.symm (number_of m) n ∙ its

    by : (x ≡ m) ⊎ Contains ms m → (Contains ms m → member_with n ms ≡ Some m) → cond (number_of x == n) (Some x) (member_with n ms) ≡ Some m
    by (inl here) more = ap (λ b. cond b (Some x) (member_with n ms)) (ap (λ (y : MemberState). number_of y == n) here ∙ its_own) ∙ ap (λ y. Some y) here
    by (inr rest) more =
        ap (λ b. cond b (Some x) (member_with n ms)) (ap (λ k. number_of x == k) ((Decides-eqb n (number_of m)).0 its) ∙ off_number (number_of x) ms apart.0 m rest) ∙ more rest

-- The one at a place is the member of its number.
pub member_there : (ms : List MemberState) (k : ℕ) (m : MemberState) → AreApart (map (λ (s : MemberState). s.who.number) ms) → slice_get ms k ≡ Some m → member_with m.who.number ms ≡ Some m
member_there ms k m apart at = the_member m.who.number ms m apart (got_inside ms k m at) ((Decides-eqb (number_of m) (number_of m)).1 refl)

-- ---- refused members that are over

module _ (cs : List OpenCall) where
  abbrev stays : MemberState → Bool
  stays s = not (is_over_in cs s)

  abbrev others_than : ℕ → List MemberState → List MemberState
  others_than n ms = filter (λ s. not (n == s.who.number)) ms

  all_others : (n : ℕ) (ms : List MemberState) → AllByRecursion (λ k. (n == k) ≡ false) (map number_of ms) → others_than n ms ≡ ms
  all_others n [] off = refl
  all_others n (m ∷ ms) off = ap (λ b. cond (not b) (m ∷ others_than n ms) (others_than n ms)) off.0 ∙ ap (λ zs. m ∷ zs) (all_others n ms off.1)

  found_off : (n : ℕ) (ms : List MemberState) (s : MemberState) → find (is_over_in cs) ms ≡ Some s → AllByRecursion (λ k. (n == k) ≡ false) (map number_of ms) → (n == number_of s) ≡ false
  found_off n ms s found off = off_number n ms off s (find_inside (is_over_in cs) ms s found).0

  -- The first of them goes, and the same are left in the end.
  abbrev Goes : List MemberState → MemberState → Type 0
  Goes ms s = (filter stays (others_than (number_of s) ms) ≡ filter stays ms) × (length (others_than (number_of s) ms) + 1 ≡ length ms)

  goes : (ms : List MemberState) (s : MemberState) → AreApart (map number_of ms) → find (is_over_in cs) ms ≡ Some s → Goes ms s
  goes [] s apart found = absurd (none_some s found)
  goes (m ∷ ms) s apart found = by (is_over_in cs m) refl found (λ at. goes ms s apart.1 at)
    where
      by : (b : Bool) → is_over_in cs m ≡ b → cond b (Some m) (find (is_over_in cs) ms) ≡ Some s → (find (is_over_in cs) ms ≡ Some s → Goes ms s) → Goes (m ∷ ms) s
      by true is at rest =
          subst (λ t. Goes (m ∷ ms) t) (some_value m s at)
          (let gone : others_than (number_of m) (m ∷ ms) ≡ ms =
          ap (λ b. cond (not b) (m ∷ others_than (number_of m) ms) (others_than (number_of m) ms)) ((Decides-eqb (number_of m) (number_of m)).1 refl)
          ∙ all_others (number_of m) ms apart.0 in
          let left = ap (λ (zs : List MemberState). length zs) gone in
          (ap (filter stays) gone ∙ sym (ap (λ b. cond (not b) (m ∷ filter stays ms) (filter stays ms)) is), omega (arith, left)))
      by false is at rest =
          let other : (number_of s == number_of m) ≡ false = nat_eq_equiv.symm (number_of s) (number_of m) ∙ found_off (number_of m) ms s at apart.0 in
          let kept : others_than (number_of s) (m ∷ ms) ≡ m ∷ others_than (number_of s) ms =
          ap (λ b. cond (not b) (m ∷ others_than (number_of s) ms) (others_than (number_of s) ms)) other in
          let left = ap (λ (zs : List MemberState). length zs) kept in
          let less = (rest at).1 in (
            ap (filter stays) kept
                ∙ (ap (λ b. cond (not b) (m ∷ filter stays (others_than (number_of s) ms)) (filter stays (others_than (number_of s) ms))) is
                ∙ (ap (λ zs. m ∷ zs) (rest at).0 ∙ sym (ap (λ b. cond (not b) (m ∷ filter stays ms) (filter stays ms)) is))),
            omega (arith, left, less),
          )

  none_goes : (ms : List MemberState) → find (is_over_in cs) ms ≡ None → ms ≡ filter stays ms
  none_goes [] none = refl
  none_goes (m ∷ ms) none = by (is_over_in cs m) refl none (λ at. none_goes ms at)
    where
      by : (b : Bool) → is_over_in cs m ≡ b → cond b (Some m) (find (is_over_in cs) ms) ≡ None → (find (is_over_in cs) ms ≡ None → ms ≡ filter stays ms) → m ∷ ms ≡ filter stays (m ∷ ms)
      by true is at rest = absurd (none_some m (sym at))
      by false is at rest = ap (λ zs. m ∷ zs) (rest at) ∙ sym (ap (λ b. cond (not b) (m ∷ filter stays ms) (filter stays ms)) is)

  -- These members without those that are over.
  abbrev pub left_of : MembersState → MembersState
  left_of v = record v { members = filter stays v.members }

  -- One pass of the loop.
  pub one_goes : (n : ℕ) (v w : MembersState) → AreApart (map (λ (s : MemberState). s.who.number) v.members) → Some n ≡ option_map (λ (s : MemberState). s.who.number) (find (is_over_in cs) v.members)
      → w ≡ record v { members = filter (λ s. not (n == s.who.number)) v.members }
      → (left_of w ≡ left_of v) × (length w.members < length v.members)
  one_goes n v w apart found made = by (find (is_over_in cs) v.members) refl found
    where
      by : (o : Option MemberState) → find (is_over_in cs) v.members ≡ o → Some n ≡ option_map (λ (s : MemberState). s.who.number) o → (left_of w ≡ left_of v) × (length w.members < length v.members)
      by None at is = absurd (none_some n (sym is))
      by (Some s) at is =
          let made_so : w ≡ record v { members = others_than s.who.number v.members } = made ∙ ap (λ k. record v { members = others_than k v.members }) (some_value n s.who.number is) in
          let h = goes v.members s apart at in
          let less = h.1 in
          let same = ap (λ (u : MembersState). length u.members) made_so in
          (ap left_of made_so ∙ ap (λ zs. record v { members = zs }) h.0, omega (arith, less, same))

  pub all_stay : (v : MembersState) → None ≡ option_map (λ (s : MemberState). s.who.number) (find (is_over_in cs) v.members) → v ≡ left_of v
  all_stay v none = ap (λ zs. record v { members = zs }) (none_goes v.members (by (find (is_over_in cs) v.members) none))
    where
      by : (o : Option MemberState) → None ≡ option_map (λ (s : MemberState). s.who.number) o → o ≡ None
      by None is = refl
      by (Some s) is = absurd (none_some s.who.number is)

-- ---- the own sector

none_false : {A : Type 0} → false ≡ true → A
none_false h = absurd (true≢false (sym h))

-- Each first read is told alike.
first_told : (p : Purpose) (a : Answer) (now : ℕ) (m : MemberState) → is_join_call FirstRead p ≡ true → own_told (Joining 0 FirstRead) a now m ≡ own_told p a now m
first_told (Joining j FirstRead) a now m is = refl
first_told (Joining j WatchRead) a now m is = none_false is
first_told (Joining j DecidingRead) a now m is = none_false is
first_told (Joining j ClaimWrite) a now m is = none_false is
first_told (Joining j VerifyRead) a now m is = none_false is
first_told (Joining j FirstRenewal) a now m is = none_false is
first_told Renewal a now m is = none_false is
first_told Survey a now m is = none_false is
first_told (Leaving j) a now m is = none_false is
first_told (Lease work step) a now m is = none_false is
first_told (RequestRead j) a now m is = none_false is
first_told (RequestWrite j owner) a now m is = none_false is
first_told SeeRequest a now m is = none_false is
first_told (ValueWrite j) a now m is = none_false is
first_told (ValueRead j) a now m is = none_false is

pub first_changed : (n now : ℕ) (p : Purpose) (a : Answer) (ms : List MemberState) → is_join_call FirstRead p ≡ true
    → changed_member n (own_told (Joining 0 FirstRead) a now) ms ≡ changed_member n (own_told p a now) ms
first_changed n now p a ms is = changed_as n (own_told (Joining 0 FirstRead) a now) (own_told p a now) ms (λ m there its. first_told p a now m is)

told_who : (c : OpenCall) (a : Answer) (b : Begun) (m : MemberState) → (renewals_told c a b m).who ≡ m.who
told_who c a b m = by (tells_renewals c.purpose)
  where
    by : (t : Bool) → (cond t (renewing_told (renewed_of c a) false b m) m).who ≡ m.who
    by true = refl
    by false = refl

pub own_changed : (n now : ℕ) (c : OpenCall) (a : Answer) (b : Begun) (ms : List MemberState)
    → changed_member n (own_told c.purpose a now) (changed_member n (renewals_told c a b) ms) ≡ changed_member n (own_heard c a b now) ms
own_changed n now c a b ms = changed_twice n (own_told c.purpose a now) (renewals_told c a b) ms (told_who c a b)

pub renewals_off : (v : MembersState) (n : ℕ) (c : OpenCall) (a : Answer) (b : Begun) → tells_renewals c.purpose ≡ false → v ≡ record v { members = changed_member n (renewals_told c a b) v.members }
renewals_off v n c a b off =
    ap (λ zs. record v { members = zs })
    (none_changed n v.members ∙ changed_as n (λ m. m) (renewals_told c a b) v.members (λ m there its. sym (ap (λ t. cond t (renewing_told (renewed_of c a) false b m) m) off)))

-- ---- a request

pub request_off : (v : MembersState) (n now : ℕ) (owner : Option ℕ) → ((m : MemberState) → request_heard owner now m ≡ m) → v ≡ record v { members = changed_member n (request_heard owner now) v.members }
request_off v n now owner off = ap (λ zs. record v { members = zs }) (none_changed n v.members ∙ changed_as n (λ m. m) (request_heard owner now) v.members (λ m there its. sym (off m)))

-- To nobody.
pub no_owner : (owner now : ℕ) (m : MemberState) → owner < 1 → request_heard (Some owner) now m ≡ m
no_owner zero now m less = refl
no_owner (suc k) now m less = absurd (omega (arith, less))

-- ---- a read of all ids

pub survey_changed : (run : RunOf) (n before after : ℕ) (bytes : List ℕ) (b : Begun) (shows : Bool) (ms : List MemberState) → AreApart (map (λ (s : MemberState). s.who.number) ms)
    → ((m : MemberState) → member_with n ms ≡ Some m → shows ≡ shows_at run bytes m)
    → changed_member n (told_survey run before after bytes) (changed_member n (own_told Survey (Read bytes) after) (changed_member n (renewing_told None shows b) ms))
    ≡ changed_member n (survey_heard run before after bytes b) ms
survey_changed run n before after bytes b shows ms apart is =
    ap (changed_member n (told_survey run before after bytes)) (changed_twice n (own_told Survey (Read bytes) after) (renewing_told None shows b) ms (λ m. refl))
    ∙ (changed_twice n (told_survey run before after bytes) (λ m. own_told Survey (Read bytes) after (renewing_told None shows b m)) ms (λ m. refl)
    ∙ changed_as n (λ m. told_survey run before after bytes (own_told Survey (Read bytes) after (renewing_told None shows b m))) (survey_heard run before after bytes b) ms
    (λ m there its. ap (λ t. told_survey run before after bytes (own_told Survey (Read bytes) after (renewing_told None t b m))) (is m (the_member n ms m apart there its))))

-- ---- a lease's read

-- A read is made once more only where blocks are kept in pairs.
pub again_paired : (z : Sizes) (step : LeaseStep) (bytes : List ℕ) → is_asked_again z step bytes ≡ true → z.paired ≡ true
again_paired z step bytes = by z.paired
  where
    torn : Bool
    torn = list_any (λ id. is_none (pair_back (layout_of z) (part_read (layout_of z) bytes step) id)) (range_with_len 1 z.hosts)

    by : (b : Bool) → is_some (elim (b && torn) [ false ↦ None | true ↦ read_of_step step ]) ≡ true → b ≡ true
    by true is = refl
    by false is = none_false is

pub first_or_none : (o : Option (List (Option PairBlock))) → option_map_or (λ ps. ps) o [] ≡ unwrap_or o []
first_or_none None = refl
first_or_none (Some ps) = refl
