-- The lines that the program prints beside the answers to requests. Each ends with a line feed.
use Rattle.std.specs.Prelude.{ℕ, ◌++◌, List, length, codes, decimal}
use Rattle.admin_run.specs.Terms.{encode_lower, sha256, Tables}

-- a keeper's rows that state tables: how many there are, and how many of each kind
unfoldable pub counts_line : ℕ → Tables → List ℕ
counts_line rows t = codes "rows " ++ decimal rows
    ++ codes " accounts " ++ decimal (length t.accounts)
    ++ codes " apps " ++ decimal (length t.apps)
    ++ codes " grains " ++ decimal (length t.grains)
    ++ codes " grants " ++ decimal (length t.grants)
    ++ codes " saved " ++ decimal (length t.saved) ++ codes "\n"

-- a keeper's rows of which one is bad, by how many stand before it
unfoldable pub bad_row_line : ℕ → List ℕ
bad_row_line index = codes "bad row " ++ decimal index ++ codes "\n"

-- requests that were answered, texts that were asked of grains, entries of the history, and what was written: its length and its digest
unfoldable pub summary_lines : ℕ → ℕ → ℕ → List ℕ → List ℕ
summary_lines requests forwarded entries output = codes "requests " ++ decimal requests
    ++ codes "\nforwarded " ++ decimal forwarded
    ++ codes "\nentries " ++ decimal entries
    ++ codes "\noutput " ++ decimal (length output) ++ codes " " ++ encode_lower (sha256 output) ++ codes "\n"
