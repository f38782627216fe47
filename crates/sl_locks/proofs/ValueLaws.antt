-- What follows the read and the write of a value, by the version that the reply tells.
use Rattle.sl_locks.specs.Tables.{compares, releases_written, version_read, version_written}
use Rattle.sl_run.specs.LockNames.{Lock}
use Rattle.sl_run.specs.Lvm.{Lvm, after_reading, after_writing}
use Rattle.sl_trace.specs.declared.reply.Reply.TheVariants.{Value, ValueSet, ValueTorn}
use Rattle.sl_trace.specs.declared.reply.Reply.{Reply}
use Rattle.std.proofs.Common.{refl, ◌≡◌}

pub reading_is : (m : Lvm) (l : Lock) (r : Reply) → compares l (version_read r) r m ≡ after_reading m l r
reading_is m l (Value lver seq bytes) = refl
reading_is m l ValueTorn = refl
reading_is m l r = refl

pub writing_is : (m : Lvm) (l : Lock) (r : Reply) → releases_written l (version_written r) r m ≡ after_writing m l r
writing_is m l (ValueSet lver seq) = refl
writing_is m l r = refl
