-- What is told of what a connection owns.
use Rattle.proxy_outside.specs.Reading.{Origin}
use Rattle.proxy_outside.specs.Writing.{Target}
use Rattle.proxy_links.specs.Board.{Half}
use Rattle.session_trace.specs.Running.{Now, Board}
use Rattle.session_round.specs.declared.live.Live.{Live}

abbrev pub now_of : {S K T R : Type 0} → (S → Origin) → (K → Target) → (T → Target) → (R → Origin) → Live S K T R → Now
now_of client_in client_out tx rx l = record {
  client_in = client_in l.client_in;
  client_out = client_out l.client_out;
  tx = tx l.tx;
  rx = rx l.rx;
  request = l.request;
  response = l.response;
}

abbrev pub board_of : {M : Type 0} → (M → Half) → (M → Half) → M → Board
board_of front back m = record { front = front m; back = back m }
