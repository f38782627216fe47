-- How the invariant is carried over a step, and what follows from it in each state.
use Rattle.sl_ids.specs.Invariant.{HasBase, HasClaim, Invariant, LandingsInOrder, PairInvariant, SessionInvariant}
use Rattle.sl_ids.specs.InvariantLaws.{ClaimsAreOrdered, OneActs, SectorIsFresh}
use Rattle.sl_ids.specs.State.{Content, Landing, Session, SessionId, State, shown}
use Rattle.sl_ids.specs.Steps.{ChangesOnly, SameLandings}
use Rattle.sl_ids.specs.Terms.{AreLongEnough, Terms}
use Rattle.sl_words.proofs.CaseLaws.{not_both, one_value, true_or_false}
use Rattle.sl_words.proofs.OrderLaws.{less_or_same, same_or_apart}
use Rattle.std.proofs.Common.{None, Option, Some, ap, arith, inl, inr, refl, subst, sym, true, ℕ, ◌<◌, ◌∙◌, ◌≡◌, ◌≤◌, ◌⊎◌}
use Rattle.std.proofs.lemmas.Bool.{cases_lt}

-- ---- tools

-- The same session, or not.
pub same_session : (i j : SessionId) → (i ≡ j) ⊎ (i ≡ j → ⊥)
same_session i j =
    elim (same_or_apart i.machine j.machine) [
      | inr ne ↦ inr (λ e. ne (ap (λ (x : SessionId). x.machine) e))
      | inl a ↦ elim (same_or_apart i.daemon j.daemon) [
        | inr ne ↦ inr (λ e. ne (ap (λ (x : SessionId). x.daemon) e))
        | inl b ↦ elim (same_or_apart i.number j.number) [
          | inr ne ↦ inr (λ e. ne (ap (λ (x : SessionId). x.number) e))
          | inl c ↦ inl (λ d. record { machine = a d; daemon = b d; number = c d })
        ]
      ]
    ]

pub by_writer : (l m : Landing) (x : Option SessionId) → l ≡ m → l.writer ≡ x → m.writer ≡ x
by_writer l m x e p = ap (λ (y : Landing). y.writer) (sym e) ∙ p

pub by_shown : (l m : Landing) (x : Option Content) → l ≡ m → l.shown ≡ x → m.shown ≡ x
by_shown l m x e p = ap (λ (y : Landing). y.shown) (sym e) ∙ p

pub by_moment : (l m : Landing) → l ≡ m → l.moment ≡ m.moment
by_moment l m e = ap (λ (y : Landing). y.moment) e

-- What is said of each session, after one has changed.
pub each : (P : SessionId → Session → Type 0) (w v : State) (s : SessionId) (next : Session) → ChangesOnly w v s next → P s next
    → ((j : SessionId) → (j ≡ s → ⊥) → P j (w.session j)) → (j : SessionId) → P j (v.session j)
each P w v s next t here there j =
    elim (same_session j s) [
      | inl e ↦ subst (λ (i : SessionId). P i (v.session i)) (sym e) (subst (P s) (sym t.self) here)
      | inr ne ↦ subst (P j) (sym (t.others j ne)) (there j ne)
    ]

-- What is said of each two sessions, after one has changed.
pub each_two : (P : SessionId → Session → SessionId → Session → Type 0) (w v : State) (s : SessionId) (next : Session)
    → ChangesOnly w v s next → ((j : SessionId) → (j ≡ s → ⊥) → P s next j (w.session j))
    → ((j : SessionId) → (j ≡ s → ⊥) → P j (w.session j) s next)
    → ((i j : SessionId) → (i ≡ j → ⊥) → (i ≡ s → ⊥) → (j ≡ s → ⊥) → P i (w.session i) j (w.session j)) → (i j : SessionId) → (i ≡ j → ⊥)
    → P i (v.session i) j (v.session j)
each_two P w v s next t first second others i j apart =
    each (λ n x. (n ≡ j → ⊥) → P n x j (v.session j)) w v s next t
    (λ ne. each (λ n x. (s ≡ n → ⊥) → P s next n x) w v s next t (λ no. absurd (no refl)) (λ n no also. first n no) j ne)
    (λ m no ne. each (λ n x. (m ≡ n → ⊥) → P m (w.session m) n x) w v s next t (λ also. second m no) (λ n nn also. others m n also no nn) j ne)
    i apart

-- ---- the same landings, later

landings_kept : (now later count : ℕ) (land next : ℕ → Landing) → now ≤ later → ((k : ℕ) → k < count → next k ≡ land k)
    → LandingsInOrder now count land → LandingsInOrder later count next
landings_kept now later count land next l same m = record {
  some = m.some;
  past = λ k h. (let e = by_moment (next k) (land k) (same k h) in let p = m.past k h in omega arith);
  rising = λ j k h i. (
      let d = by_moment (next j) (land j) (same j (omega arith)) in
      let e = by_moment (next k) (land k) (same k i) in
      let p = m.rising j k h i in omega arith
      );
  generations = λ j k h i x y p q. m.generations j k h i x y (by_shown (next j) (land j) (Some x) (same j (omega arith)) p) (by_shown (next k) (land k) (Some y) (same k i) q);
  distinct = λ j k h i x p q. m.distinct j k h i x (by_shown (next j) (land j) (Some x) (same j (omega arith)) p) (by_shown (next k) (land k) (Some x) (same k i) q);
  nobody = λ k h e. (
      let old = m.nobody k h (by_writer (next k) (land k) None (same k h) e) in
      (old.0, λ x p. old.1 x (by_shown (next k) (land k) (Some x) (same k h) p))
      );
}

based_kept : (r : Terms) (now later count : ℕ) (land next : ℕ → Landing) (base generation registered : ℕ) → now ≤ later
    → ((k : ℕ) → k < count → next k ≡ land k) → HasBase r now count land base generation registered
    → HasBase r later count next base generation registered
based_kept r now later count land next base generation registered l same b =
    let e = by_moment (next base) (land base) (same base b.within) in
    record {
      within = b.within;
      content = b.content;
      spelled = by_shown (land base) (next base) (Some b.content) (sym (same base b.within)) b.spelled;
      next = b.next;
      early = let p = b.early in omega arith;
      later = λ k h i. (let p = b.later k h i in let f = by_moment (next k) (land k) (same k i) in omega arith);
      watched = elim b.watched [ inl p ↦ inl p | inr p ↦ inr (omega arith) ];
    }

placed_kept : (count : ℕ) (land next : ℕ → Landing) (n : SessionId) (claim own : ℕ) → ((k : ℕ) → k < count → next k ≡ land k)
    → HasClaim count land n claim own → HasClaim count next n claim own
placed_kept count land next n claim own same p =
    let e = sym (same claim p.within) in
    record {
      within = p.within;
      writer = by_writer (land claim) (next claim) (Some n) e p.writer;
      content = p.content;
      spelled = by_shown (land claim) (next claim) (Some p.content) e p.spelled;
      generation = p.generation;
    }

one_kept : (r : Terms) (now later count : ℕ) (land next : ℕ → Landing) (n : SessionId) (s : Session) → now ≤ later
    → ((k : ℕ) → k < count → next k ≡ land k) → SessionInvariant r now count land n s → SessionInvariant r later count next n s
one_kept r now later count land next n s l same o =
    let writer : (k : ℕ) → k < count → (x : Option SessionId) → (next k).writer ≡ x → (land k).writer ≡ x = λ k h x e. by_writer (next k) (land k) x (same k h) e in
    let shows : (k : ℕ) → k < count → (x : Option Content) → (next k).shown ≡ x → (land k).shown ≡ x = λ k h x e. by_shown (next k) (land k) x (same k h) e in
    record {
      waits = o.waits;
      decided = λ p. (let d = o.decided p in (d.0, based_kept r now later count land next s.base s.generation s.registered l same d.1));
      unwritten = λ p k h e. o.unwritten p k h (writer k h (Some n) e);
      wrote = λ k h e x f. o.wrote k h (writer k h (Some n) e) x (shows k h (Some x) f);
      base = λ p k g h x f. o.base p k g h x (shows k h (Some x) f);
      landed = λ p. (let d = o.landed p in (d.0, d.1, placed_kept count land next n s.claim s.generation same d.2, λ x f. d.3 x (shows s.claim d.2.within (Some x) f)));
      verified = λ p. (let d = o.verified p in (d.0, placed_kept count land next n s.claim s.generation same d.1, d.2, d.3));
      joined = o.joined;
      owner = λ p q k g h. by_writer (land k) (next k) (Some n) (sym (same k h)) (o.owner p q k g h);
      renewed = λ p q. (
          let f = o.renewed p q in
          record {
            before = let b = f.before in omega arith;
            soon = λ k e. (let m = by_moment (next k) (land k) (same k (omega arith)) in let g = f.soon k e in omega arith);
            live = λ k e x a b. (let m = by_moment (next k) (land k) (same k (omega arith)) in let g = f.live k e x (shows k (omega arith) (Some x) a) b in omega arith);
          }
          );
    }

two_kept : (r : Terms) (count : ℕ) (land next : ℕ → Landing) (m : SessionId) (s : Session) (n : SessionId) (t : Session)
    → ((k : ℕ) → k < count → next k ≡ land k) → PairInvariant r count land m s n t → PairInvariant r count next m s n t
two_kept r count land next m s n t same o = record {
  one_base = o.one_base;
  sole = o.sole;
  behind = o.behind;
  solo = o.solo;
  alone = λ a b c k h e. o.alone a b c k h (by_writer (next k) (land k) (Some n) (same k h) e);
}

-- A step at which nothing lands: what holds of the sessions after it, over the landings before it.
pub nothing_landed : (r : Terms) (w v : State) → AreLongEnough r → w.now ≤ v.now → SameLandings w v
    → LandingsInOrder w.now w.count w.landing → ((s : SessionId) → SessionInvariant r w.now w.count w.landing s (v.session s))
    → ((s t : SessionId) → (s ≡ t → ⊥) → PairInvariant r w.count w.landing s (v.session s) t (v.session t)) → Invariant r v
nothing_landed r w v long l same m one two = record {
  terms = long;
  landings = rw same.count (landings_kept w.now v.now w.count w.landing v.landing l same.old m);
  one = λ s. rw same.count (one_kept r w.now v.now w.count w.landing v.landing s (v.session s) l same.old (one s));
  two = λ s t ne. rw same.count (two_kept r w.count w.landing v.landing s (v.session s) t (v.session t) same.old (two s t ne));
}

-- The state before a landing, over the landings after it.
pub before_landing : (r : Terms) (w : State) (next : ℕ → Landing) → ((k : ℕ) → k < w.count → next k ≡ w.landing k) → Invariant r w → Invariant r (record w { landing = next })
before_landing r w next same i = record {
  terms = i.terms;
  landings = landings_kept w.now w.now w.count w.landing next (omega arith) same i.landings;
  one = λ s. one_kept r w.now w.now w.count w.landing next s (w.session s) (omega arith) same (i.one s);
  two = λ s t ne. two_kept r w.count w.landing next s (w.session s) t (w.session t) same (i.two s t ne);
}

-- ---- derived in each state

-- The contents of two landings that spell the same stand at one place.
pub one_place : (r : Terms) (w : State) → Invariant r w → (j k : ℕ) (x : Content) → j < w.count → k < w.count → shown w j ≡ Some x
    → shown w k ≡ Some x → j ≡ k
one_place r w i j k x h l p q =
    elim (cases_lt j k) [
      | inl lt ↦ absurd (i.landings.distinct j k lt l x p q)
      | inr ge ↦ elim (cases_lt k j) [ inl gt ↦ absurd (i.landings.distinct k j gt h x q p) | inr le ↦ omega arith ]
    ]

-- Of two verified sessions the one that claimed first is over.
pub first_over : (r : Terms) (w : State) → Invariant r w → (s t : SessionId) → (s ≡ t → ⊥) → (w.session s).verified ≡ true
    → (w.session t).verified ≡ true → (w.session s).claim < (w.session t).claim → (w.session s).over ≡ true
first_over r w i s t ne p q lt =
    elim (true_or_false (w.session s).over) [
      | inl done ↦ done
      | inr not ↦
          let place = ((i.one t).verified q).1 in
          absurd (ne (one_value s t (w.landing (w.session t).claim).writer ((i.one s).owner p not (w.session t).claim lt place.within) place.writer))
    ]

pub apart_claims : (r : Terms) (w : State) → Invariant r w → (s t : SessionId) → (s ≡ t → ⊥) → (w.session s).verified ≡ true
    → (w.session t).verified ≡ true → ((w.session s).claim < (w.session t).claim) ⊎ ((w.session t).claim < (w.session s).claim)
apart_claims r w i s t ne p q =
    elim (cases_lt (w.session s).claim (w.session t).claim) [
      | inl lt ↦ inl lt
      | inr ge ↦ elim (cases_lt (w.session t).claim (w.session s).claim) [
        | inl gt ↦ inr gt
        | inr le ↦
            let e : (w.session s).claim ≡ (w.session t).claim = omega arith in
            let a = ((i.one s).verified p).1.writer in
            let b = ((i.one t).verified q).1.writer in
            absurd (ne (one_value s t (w.landing (w.session t).claim).writer (subst (λ (k : ℕ). (w.landing k).writer ≡ Some s) e a) b))
      ]
    ]

-- At most one verified session is not over.
pub only_one : OneActs
only_one r w i s t ne p q =
    elim (apart_claims r w i s t ne p q) [
      | inl lt ↦ inl (first_over r w i s t ne p q lt)
      | inr gt ↦ inr (first_over r w i t s (λ e. ne (sym e)) q p gt)
    ]

-- Of two verified sessions the one that claimed first has the smaller generation.
pub first_lower : (r : Terms) (w : State) → Invariant r w → (s t : SessionId) → (s ≡ t → ⊥) → (w.session s).verified ≡ true
    → (w.session t).verified ≡ true → (w.session s).claim < (w.session t).claim → (w.session s).generation < (w.session t).generation
first_lower r w i s t ne p q lt =
    let a = (i.one s).verified p in
    let b = (i.one t).verified q in
    elim b.3 [
      | inl d ↦
          let based = ((i.one t).decided d.0).1 in
          let low : (w.session s).claim ≤ (w.session t).base = elim (cases_lt (w.session t).base (w.session s).claim) [
            | inl under ↦ absurd (let k = ((i.two s t ne).behind p d.0 under).1 d.1 in omega arith)
            | inr over ↦ over
          ] in
          let ag = a.1.generation in
          let bn = based.next in
          elim (less_or_same (w.session s).claim (w.session t).base low) [
            | inl under ↦ let m = i.landings.generations (w.session s).claim (w.session t).base under based.within a.1.content based.content a.1.spelled based.spelled in omega arith
            | inr e ↦
                let c = one_value a.1.content based.content (shown w (w.session t).base) (subst (λ (k : ℕ). shown w k ≡ Some a.1.content) e a.1.spelled) based.spelled in
                let f : a.1.content.generation ≡ based.content.generation = ap (λ (x : Content). x.generation) c in
                omega arith
          ]
      | inr d ↦ absurd (let z = d.1 in omega arith)
    ]

pub ordered : ClaimsAreOrdered
ordered r w i s t ne p q lt = (first_over r w i s t ne p q lt, first_lower r w i s t ne p q lt)

-- The newest landing beside a session that acts.
pub fresh : SectorIsFresh
fresh r w i b s p n k x last f =
    let o = i.one s in
    let placed = (o.verified p).1 in
    let within = placed.within in
    let writer : (w.landing k).writer ≡ Some s = elim (less_or_same (w.session s).claim k (omega arith)) [
      | inl lt ↦ o.owner p n k lt (omega arith)
      | inr e ↦ subst (λ (m : ℕ). (w.landing m).writer ≡ Some s) e placed.writer
    ] in
    let acts = b.acting s p n in
    let renewed = o.renewed p n in
    let soon = renewed.soon k last in
    record {
      not_free = λ g. not_both (w.session s).over ((o.wrote k (omega arith) writer x f).free g).1 n;
      live = λ g. (let m = renewed.live k last x f g in omega arith);
      any = omega arith;
    }
