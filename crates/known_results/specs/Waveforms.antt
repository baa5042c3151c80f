-- Waveforms that are known whole: P4 with 3, as document 02 has it in R-1, and P2 and P3, worked out by hand from their rows. Assumes nothing.
use Rattle.std.specs.Prelude.{ℕ, true, List, [], ◌∷◌, ◌++◌, pos}
use Rattle.laws.specs.Words.{ascii}
use Rattle.jobs.specs.declared.job.Job.{Job}
use Rattle.dumps.specs.Dumps.{waveform_of}
use Rattle.known_results.specs.Cases.{jobs_in, p1, p2, p3, p4}

-- Jobs, running times, and the waveform of the run with them.
abbrev pub KnownWaveform : Type 0
KnownWaveform = List Job × List ℕ × List ℕ

-- The same, by the definitions.
unfoldable pub waveform_with : KnownWaveform → KnownWaveform
waveform_with w = (w.0, w.1, waveform_of w.0 w.1)

-- The definitions and the values at time 0 of P1, whose first job runs from there on.
abbrev pub p1_start : List ℕ
p1_start =
    ascii "$timescale 100 us $end\n$scope module core $end\n"
    ++ ascii "$var wire 1 ! c1j1 $end\n$var wire 1 \" c1j2 $end\n$var wire 1 # c1j3 $end\n$var wire 1 $ c1j4 $end\n$var wire 1 % c2j1 $end\n$var wire 1 & c2j2 $end\n"
    ++ ascii "$upscope $end\n$enddefinitions $end\n#0\n$dumpvars\n1!\n0\"\n0#\n0$\n0%\n0&\n$end\n"

-- P4 with 3.
abbrev pub p4_waveform : KnownWaveform
p4_waveform = (
  jobs_in (p4 12 (pos 0) true),
  3 ∷ [],
  ascii "$timescale 100 us $end\n$scope module core $end\n$var wire 1 ! c1j1 $end\n$upscope $end\n$enddefinitions $end\n#0\n$dumpvars\n0!\n$end\n#5\n1!\n#8\n0!\n",
)

-- P2 and P3.
abbrev pub p2_waveform : KnownWaveform
p2_waveform = (
  jobs_in p1,
  p2.0,
  p1_start ++ ascii "#30\n0!\n1%\n#40\n0%\n1!\n#50\n0!\n1\"\n#60\n0\"\n1&\n#110\n0&\n1#\n#160\n0#\n1$\n#245\n0$\n",
)

abbrev pub p3_waveform : KnownWaveform
p3_waveform = (
  jobs_in p1,
  p3.0,
  p1_start ++ ascii "#30\n0!\n1\"\n#40\n0\"\n1%\n#50\n0%\n#60\n1&\n#110\n0&\n1#\n#160\n0#\n1$\n#245\n0$\n",
)

-- The table of waveforms.
abbrev pub waveforms : List KnownWaveform
waveforms = p4_waveform ∷ p2_waveform ∷ p3_waveform ∷ []
