use Rattle.front_http.proofs.Streams.{stream_one, stream_some}
use Rattle.front_http.proofs.reader.RequestReader.new.Goals as goal

pub returns-clause-one_meaning : goal.returns-clause-one_meaning
returns-clause-one_meaning c = stream_one

pub returns-clause-some_meaning : goal.returns-clause-some_meaning
returns-clause-some_meaning c = stream_some
