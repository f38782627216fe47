-- A step of one session that may also make it over: the step, and its end after it.
use Rattle.sl_id_safety.proofs.State.StateFrames.{changed_session, name_cases, one_step, other_session, same_from, with_session}
use Rattle.sl_ids.proofs.DerivedLaws.{go_on}
use Rattle.sl_ids.specs.Runs.{IsBounded, Later, OnlyEnds}
use Rattle.sl_ids.specs.State.{Session as IdSession, SessionId as IdName, State}
use Rattle.sl_ids.specs.Steps.{ChangesOnly, End, Ends, SameLandings, Step, after_end}
use Rattle.sl_ids.specs.Terms.{Terms}
use Rattle.sl_words.proofs.CaseLaws.{not_both, true_is_false}
use Rattle.std.proofs.Common.{ap, inl, inr, refl, sym, ◌∙◌}
use Rattle.std.specs.Prelude.{Bool, false, true, [], ◌∷◌, ◌≡◌, ◌⊎◌}

-- One session of a state and of a later one of the same moment, where nothing begins.
pub record Falls (u v : State) (n : IdName) (t : IdSession) : Type 0 where
  pub now : v.now ≡ u.now
  pub others : (j : IdName) → (j ≡ n → ⊥) → v.session j ≡ u.session j
  pub idle : t.pending ≡ false
  pub acting : t.verified ≡ true → t.over ≡ false → ((u.session n).verified ≡ true) × ((u.session n).over ≡ false) × (t.renewed ≡ (u.session n).renewed)

-- A state with the landings of the later one, and this session.
pub record IsMiddle (u v x : State) (n : IdName) (t : IdSession) : Type 0 where
  pub now : x.now ≡ u.now
  pub same : SameLandings v x
  pub self : x.session n ≡ t
  pub others : (j : IdName) → (j ≡ n → ⊥) → x.session j ≡ u.session j

pub changed : (u v x : State) (n : IdName) (t : IdSession) → IsMiddle u v x n t → ChangesOnly u x n t
changed u v x n t m = record { now = m.now; self = m.self; others = m.others }

pending_by : (u v x : State) (n s : IdName) (t : IdSession) → Falls u v n t → IsMiddle u v x n t → (s ≡ n) ⊎ (s ≡ n → ⊥) → (x.session s).pending ≡ true
    → ((u.session s).pending ≡ true) × ((x.session s).registered ≡ (u.session s).registered)
pending_by u v x n s t f m (inl e) h =
    absurd (not_both t.pending (ap (λ z. z.pending) (sym (ap x.session e ∙ m.self)) ∙ h) f.idle)
pending_by u v x n s t f m (inr ne) h = let e = m.others s ne in (ap (λ z. z.pending) (sym e) ∙ h, ap (λ z. z.registered) e)

acting_by : (u v x : State) (n s : IdName) (t : IdSession) → Falls u v n t → IsMiddle u v x n t → (s ≡ n) ⊎ (s ≡ n → ⊥) → (x.session s).verified ≡ true
    → (x.session s).over ≡ false → ((u.session s).verified ≡ true) × ((u.session s).over ≡ false) × ((x.session s).renewed ≡ (u.session s).renewed)
acting_by u v x n s t f m (inl e) h k =
    let is : x.session s ≡ t = ap x.session e ∙ m.self in
    let a = f.acting (ap (λ z. z.verified) (sym is) ∙ h) (ap (λ z. z.over) (sym is) ∙ k) in
    (ap (λ z. (u.session z).verified) e ∙ a.0, ap (λ z. (u.session z).over) e ∙ a.1, ap (λ z. z.renewed) is ∙ a.2 ∙ ap (λ z. (u.session z).renewed) (sym e))
acting_by u v x n s t f m (inr ne) h k =
    let e = m.others s ne in (ap (λ z. z.verified) (sym e) ∙ h, ap (λ z. z.over) (sym e) ∙ k, ap (λ z. z.renewed) e)

only_ends : (u v x : State) (n : IdName) (t : IdSession) → Falls u v n t → IsMiddle u v x n t → OnlyEnds u x
only_ends u v x n t f m =
    record {
      now = m.now;
      pending = λ s. pending_by u v x n s t f m (name_cases s n);
      acting = λ s. acting_by u v x n s t f m (name_cases s n);
    }

middle : (u v : State) (n : IdName) (t : IdSession) → Falls u v n t → IsMiddle u v (with_session v n t) n t
middle u v n t f =
    record {
      now = f.now;
      same = record { count = refl; old = λ k h. refl };
      self = changed_session v n t;
      others = λ j ne. other_session v n j t ne ∙ f.others j ne;
    }

ends_by : (u v : State) (n : IdName) (t : IdSession) → Falls u v n t → v.session n ≡ record t { over = true } → End (with_session v n t) v n
ends_by u v n t f last =
    record {
      same = same_from v v n t (record { count = refl; old = λ k h. refl });
      changes = record {
        now = refl;
        self = last ∙ ap (λ p. let s : IdSession = record t { over = true; pending = p } in s) f.idle ∙ ap after_end (sym (changed_session v n t));
        others = λ j ne. sym (other_session v n j t ne);
      };
    }

two_steps : (r : Terms) (u v : State) (n : IdName) (t : IdSession) → IsBounded r u → IsBounded r v → Falls u v n t → v.session n ≡ record t { over = true }
    → ((x : State) → IsMiddle u v x n t → Step r u x) → Later r u v
two_steps r u v n t low high f last step =
    let m = middle u v n t f in (
      with_session v n t ∷ v ∷ [],
      (
        step (with_session v n t) m,
        go_on.between r u (with_session v n t) (only_ends u v (with_session v n t) n t f m) low,
        (Ends n (ends_by u v n t f last), high, refl),
      ),
    )

itself : (u v : State) (n : IdName) (t : IdSession) → Falls u v n t → v.session n ≡ t → IsMiddle u v v n t
itself u v n t f last = record { now = f.now; same = record { count = refl; old = λ k h. refl }; self = last; others = f.others }

-- The step, and where the session becomes over by it its end.
pub goes_over : (r : Terms) (u v : State) (n : IdName) (t : IdSession) (over : Bool) → IsBounded r u → IsBounded r v → Falls u v n t
    → v.session n ≡ record t { over = over } → (t.over ≡ true → over ≡ true) → ((x : State) → IsMiddle u v x n t → Step r u x) → Later r u v
goes_over r u v n t over low high f last stays step = by over t.over refl refl where
  by : (o p : Bool) → over ≡ o → t.over ≡ p → Later r u v
  by true false now before = two_steps r u v n t low high f (last ∙ ap (λ o. let s : IdSession = record t { over = o } in s) now) step
  by true true now before =
      one_step r u v (step v (itself u v n t f (last ∙ ap (λ o. let s : IdSession = record t { over = o } in s) (now ∙ sym before)))) high
  by false false now before =
      one_step r u v (step v (itself u v n t f (last ∙ ap (λ o. let s : IdSession = record t { over = o } in s) (now ∙ sym before)))) high
  by false true now before = absurd (true_is_false (sym (stays before) ∙ now))
