-- The line with which a report ends where a line of its schedule is refused.
use Rattle.sl_run.specs.declared.event.Refusal.TheVariants.{LimitBytes, LimitFire, LimitGeometry, LimitGrace, LimitIds, LimitIo, LimitLand, LimitMoment, LimitRho, MissingCall, MissingDaemon, MissingDisk, MissingDown, MissingFlight, MissingFree, MissingLanding, MissingLockspace, MissingLvm, MissingMachine, MissingPlace, MissingReset, MissingSample, MissingSpawn, MissingUp, PremiseDrift, PremiseLanding, PremiseName, PremiseTorn, PremiseWatchdog, Syntax}
use Rattle.sl_run.specs.declared.event.Refusal.{Refusal}
use Rattle.sl_text.specs.Forms.{spaced}
use Rattle.std.specs.Prelude.{List, codes, decimal, [], ℕ, ◌∷◌}

-- A refusal's words.
abbrev pub refusal_words : Refusal → List (List ℕ)
refusal_words Syntax = codes "syntax" ∷ []
refusal_words LimitIo = codes "limit" ∷ codes "io" ∷ []
refusal_words LimitFire = codes "limit" ∷ codes "fire" ∷ []
refusal_words LimitLand = codes "limit" ∷ codes "land" ∷ []
refusal_words LimitRho = codes "limit" ∷ codes "rho" ∷ []
refusal_words LimitGrace = codes "limit" ∷ codes "grace" ∷ []
refusal_words LimitMoment = codes "limit" ∷ codes "moment" ∷ []
refusal_words LimitBytes = codes "limit" ∷ codes "bytes" ∷ []
refusal_words LimitGeometry = codes "limit" ∷ codes "geometry" ∷ []
refusal_words LimitIds = codes "limit" ∷ codes "ids" ∷ []
refusal_words MissingMachine = codes "missing" ∷ codes "machine" ∷ []
refusal_words MissingDisk = codes "missing" ∷ codes "disk" ∷ []
refusal_words MissingLockspace = codes "missing" ∷ codes "lockspace" ∷ []
refusal_words MissingFree = codes "missing" ∷ codes "free" ∷ []
refusal_words MissingUp = codes "missing" ∷ codes "up" ∷ []
refusal_words MissingDown = codes "missing" ∷ codes "down" ∷ []
refusal_words MissingReset = codes "missing" ∷ codes "reset" ∷ []
refusal_words MissingDaemon = codes "missing" ∷ codes "daemon" ∷ []
refusal_words MissingLvm = codes "missing" ∷ codes "lvm" ∷ []
refusal_words MissingCall = codes "missing" ∷ codes "call" ∷ []
refusal_words MissingPlace = codes "missing" ∷ codes "place" ∷ []
refusal_words MissingSample = codes "missing" ∷ codes "sample" ∷ []
refusal_words MissingFlight = codes "missing" ∷ codes "flight" ∷ []
refusal_words MissingLanding = codes "missing" ∷ codes "landing" ∷ []
refusal_words MissingSpawn = codes "missing" ∷ codes "spawn" ∷ []
refusal_words PremiseName = codes "premise" ∷ codes "name" ∷ []
refusal_words PremiseTorn = codes "premise" ∷ codes "torn" ∷ []
refusal_words PremiseDrift = codes "premise" ∷ codes "drift" ∷ []
refusal_words PremiseWatchdog = codes "premise" ∷ codes "watchdog" ∷ []
refusal_words PremiseLanding = codes "premise" ∷ codes "landing" ∷ []

-- The line that a refusal prints.
abbrev pub refusal_line : ℕ → Refusal → List ℕ
refusal_line number r = spaced (codes "line" ∷ decimal number ∷ refusal_words r)
