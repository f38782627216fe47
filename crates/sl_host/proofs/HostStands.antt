-- What a host's members come to.
use Rattle.sl_host_state.specs.KeptState.{MemberState}
use Rattle.sl_member.specs.Members.{RunOf}
use Rattle.sl_host.specs.Books.{BooksState}
use Rattle.std.proofs.Common.{ap, arith, refl}
use Rattle.std.specs.Prelude.{Bool, List, cond, false, filter, not, true, [], ℕ, ◌-◌, ◌∷◌, ◌≡◌, ◌≤◌}

-- Where none is ended, all stay.
pub none_ended : (ms : List MemberState) → ms ≡ filter (λ m. not false) ms
none_ended [] = refl
none_ended (m ∷ ms) = ap (λ ns. m ∷ ns) (none_ended ms)

-- The run of a host's members, by its books.
abbrev pub same_run : BooksState → RunOf
same_run b = record { timing = b.config.timing; sizes = b.config.sizes; host = b.config.name }

pub lowered_room : (b : Bool) (left room left' room' : ℕ) → left' ≡ left - 1 → room' ≡ cond b (room - 1) room → left ≤ room → left' ≤ room'
lowered_room true left room left' room' l r le = omega (arith, l, r, le)
lowered_room false left room left' room' l r le = omega (arith, l, r, le)
