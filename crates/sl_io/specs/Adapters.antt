-- What stands in a source over a reader of std and in a sink over a writer.
use Rattle.sl_io.specs.declared.reader.ReadSource.{ReadSource}
use Rattle.sl_io.specs.declared.writer.WriteSink.{WriteSink}
use Rattle.std.specs.Prelude.{ℕ}

-- The reader that is read.
abbrev pub reader_of : {R : Type 0} → ReadSource R → R
reader_of s = s.inner

-- The faults of the source over it.
abbrev pub reader_faults : {R : Type 0} → ReadSource R → ℕ
reader_faults s = s.faults

-- The writer that is written to.
abbrev pub writer_of : {W : Type 0} → WriteSink W → W
writer_of s = s.inner

-- The faults of the sink over it.
abbrev pub writer_faults : {W : Type 0} → WriteSink W → ℕ
writer_faults s = s.faults
