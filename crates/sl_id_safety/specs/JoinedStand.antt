-- Where a joined session stands with its id: at the place of an id of the header, joined and verified, with what the world says of it.
use Rattle.sl_area.specs.AreaLayout.{delta_offset}
use Rattle.sl_id_safety.specs.State.IdStates.{name_of, session_at, standing_of}
use Rattle.sl_id_safety.specs.State.StateLaws.{IsIdPlace}
use Rattle.sl_run.specs.Runs.{Happening}
use Rattle.sl_run.specs.Safety.{Found, HasJoined, IsSession, LawfulRun, SameId, SessionId, found_generation, is_over, world_at}
use Rattle.sl_run.specs.Worlds.{Program, World}
use Rattle.sl_run.specs.declared.header.Header.{Header}
use Rattle.std.specs.Prelude.{List, true, ℕ, ◌≡◌}

-- Where its sector begins.
abbrev pub sector_offset : World → Found → ℕ
sector_offset w f = delta_offset w.layout f.session.offset f.session.id

-- Its sector is that of an id, and it stands there as the world has it.
pub record StandsJoined (p : Program) (h : Header) (w : World) (i : SessionId) (f : Found) : Type 0 where
  pub place : IsIdPlace p h f.session.path (sector_offset w f)
  pub names : (f.session.lockspace ≡ place.lockspace.name) × (f.session.offset ≡ place.lockspace.offset) × (f.session.id ≡ place.id)
  pub stands : session_at w f.session.path (sector_offset w f) (name_of i) ≡ standing_of w f.session.path (sector_offset w f) i f
  pub joined : (session_at w f.session.path (sector_offset w f) (name_of i)).joined ≡ true
  pub verified : (session_at w f.session.path (sector_offset w f) (name_of i)).verified ≡ true
  pub over : (session_at w f.session.path (sector_offset w f) (name_of i)).over ≡ is_over i f
  pub generation : (session_at w f.session.path (sector_offset w f) (name_of i)).generation ≡ found_generation f

-- So it is with each joined session of a lawful run.
abbrev pub JoinedStand : Type 0
JoinedStand = (p : Program) (h : Header) (xs : List Happening) → LawfulRun p h xs → (i : SessionId) (f : Found) → IsSession (world_at p h xs) i f
    → HasJoined f → StandsJoined p h (world_at p h xs) i f

-- Sessions of one id have one sector.
abbrev pub SameIdsStandTogether : Type 0
SameIdsStandTogether = (w : World) (f g : Found) → SameId f g → (f.session.path ≡ g.session.path) × (sector_offset w f ≡ sector_offset w g)

-- .. and joined sessions of one sector have one id.
abbrev pub StandingTogetherIsSameId : Type 0
StandingTogetherIsSameId = (p : Program) (h : Header) (xs : List Happening) → LawfulRun p h xs → (i k : SessionId) (f g : Found)
    → IsSession (world_at p h xs) i f → IsSession (world_at p h xs) k g → HasJoined f → HasJoined g → f.session.path ≡ g.session.path
    → sector_offset (world_at p h xs) f ≡ sector_offset (world_at p h xs) g → SameId f g
