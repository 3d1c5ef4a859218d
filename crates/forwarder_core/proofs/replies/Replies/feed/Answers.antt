use Rattle.forwarder_core.proofs.Passing.{feed_behind}
use Rattle.forwarder_core.proofs.replies.Replies.feed.Goals as goal

pub returns-in_ok-feed-in-None : goal.returns-in_ok-feed-in-None
returns-in_ok-feed-in-None c held passed suspended h =
    feed_behind c.args.self.now.greeting c.args.self.now.response c.feed-in-None.new.self held c.args.piece.now passed suspended c.in-None.is c.in_ok-feed-in-None.ensures.ok h
