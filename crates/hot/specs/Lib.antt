pub mod HotSet
