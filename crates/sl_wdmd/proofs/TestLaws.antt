-- When the daemon's test holds.
use Rattle.sl_trace.specs.WatchdogConnections.{Connection, test_holds}
use Rattle.sl_words.proofs.CaseLaws.{false_is_true}
use Rattle.sl_wdmd.specs.Moves.{NoneExpired}
use Rattle.std.proofs.Common.{Bool, List, false, nat_le, not, refl, true, [], ℕ, ◌<◌, ◌||◌, ◌∷◌, ◌≡◌, ◌↔◌}
use Rattle.std.proofs.lemmas.Bool.{leb-false, lt-leb}
use Rattle.std.proofs.lemmas.List.Elements.{All-cons, All-head, All-nil, All-tail}
use Rattle.std.specs.List.{list_any}

-- It holds exactly where no connection has expired.
pub none_expired : (cs : List Connection) (now : ℕ) → (test_holds cs now ≡ true) ↔ NoneExpired cs now
none_expired [] now = (λ _. All-nil (λ c. now < c.expiry), λ _. refl)
none_expired (c ∷ cs) now =
    let rest = none_expired cs now in (
      λ holds. one_more (nat_le c.expiry now) refl holds rest.0,
      λ all. rw (lt-leb c.expiry now (All-head (λ d. now < d.expiry) c cs all)) (rest.1 (All-tail (λ d. now < d.expiry) c cs all)),
    )
  where
    one_more : (b : Bool) → nat_le c.expiry now ≡ b → not (b || list_any (λ d. nat_le d.expiry now) cs) ≡ true
        → (test_holds cs now ≡ true → NoneExpired cs now) → NoneExpired (c ∷ cs) now
    one_more true is holds rest = absurd (false_is_true holds)
    one_more false is holds rest = All-cons (λ d. now < d.expiry) c cs (leb-false c.expiry now is) (rest holds)
